-- Exact weights that are numbers, and what follows for each of them. Assumes nothing.
use Rattle.std.specs.Prelude.{◌≡◌, ℕ, ◌<◌, ◌≤◌}
use Rattle.std.specs.Ordering.{nat_cmp, MatchOrdering}
use Rattle.std.proofs.Common.{inl, inr, sym, ap, subst, ◌∙◌, arith}
use Rattle.std.proofs.lemmas.Cmp.{ranked}
use Rattle.std.specs.declared.cmp.Ordering.TheVariants.{Less, Equal, Greater}
use Rattle.std.specs.declared.cmp.Ordering.{Ordering}
use Rattle.weight.specs.Algebra.{Algebra, Lawful, Le, Compared, widest}

-- The exact weights of A are the numbers from low on: each shows its own, and no two the same. None shows low, and the ceiling high.
pub record Numbers (A : Algebra) (low high : ℕ) : Type 0 where
  pub lawful : Lawful A
  pub weight : (n : ℕ) → low ≤ n → A.Exact
  pub shows : (n : ℕ) (h : low ≤ n) → A.shown (weight n h) ≡ n
  pub once : (a b : A.Exact) → A.shown a ≡ A.shown b → a ≡ b
  pub from : (a : A.Exact) → low ≤ A.shown a
  pub rises : (a b : A.Exact) → A.lt a b → A.shown a < A.shown b
  pub none : A.shown A.none ≡ low
  pub ceiling : A.shown A.ceiling ≡ high
  pub taken : (n : ℕ) → A.least ≤ n → A.shown (A.taken n) ≡ n

module _ {A : Algebra} {low high : ℕ} (N : Numbers A low high) where
  -- exact weights are ordered as the numbers that they show
  pub lower : (a b : A.Exact) → A.shown a < A.shown b → A.lt a b
  lower a b h =
      elim (A.order a b) [
        | inl e ↦ absurd (omega (arith, h, ap A.shown e))
        | inr o ↦ elim o [ inl l ↦ l | inr g ↦ absurd (omega (arith, h, N.rises b a g)) ]
      ]

  pub compared : (a b : A.Exact) (r : Ordering) → MatchOrdering r (A.shown a < A.shown b) (A.shown a ≡ A.shown b) (A.shown b < A.shown a) → Compared A a b r
  compared a b Less h = lower a b h
  compared a b Equal h = N.once a b h
  compared a b Greater h = lower b a h

  -- the weight of the number that is shown
  pub weight_shown : (a : A.Exact) → N.weight (A.shown a) (N.from a) ≡ a
  weight_shown a = N.once (N.weight (A.shown a) (N.from a)) a (N.shows (A.shown a) (N.from a))

  pub low_within : low ≤ high
  low_within = subst (λ (n : ℕ). low ≤ n) N.ceiling (N.from A.ceiling)

  pub weight_held : (n : ℕ) (l : low ≤ n) → n ≤ high → Le A (N.weight n l) A.ceiling
  weight_held n l h g =
      let c : A.shown A.ceiling < A.shown (N.weight n l) = N.rises A.ceiling (N.weight n l) g in
      omega (arith, h, c, N.shows n l, N.ceiling)

  pub shown_within : (a : A.Exact) → Le A a A.ceiling → A.shown a ≤ high
  shown_within a h =
      elim (A.order a A.ceiling) [
        | inl e ↦ omega (arith, N.ceiling, ap A.shown e)
        | inr o ↦ elim o [ inl l ↦ omega (arith, N.ceiling, N.rises a A.ceiling l) | inr g ↦ absurd (h g) ]
      ]

  pub compared_numbers : (n m : ℕ) (l : low ≤ n) (k : low ≤ m) → Compared A (N.weight n l) (N.weight m k) (nat_cmp n m)
  compared_numbers n m l k =
      let shown : nat_cmp (A.shown (N.weight n l)) (A.shown (N.weight m k)) ≡ nat_cmp n m = ap (λ x. nat_cmp x (A.shown (N.weight m k))) (N.shows n l) ∙ ap (nat_cmp n) (N.shows m k) in
      compared (N.weight n l) (N.weight m k) (nat_cmp n m) (ranked (A.shown (N.weight n l)) (A.shown (N.weight m k)) (nat_cmp n m) (sym shown))

  -- weights of one exact weight are of one number
  pub weight_once : (n m : ℕ) (l : low ≤ n) (k : low ≤ m) → N.weight n l ≡ N.weight m k → n ≡ m
  weight_once n m l k e = sym (N.shows n l) ∙ ap A.shown e ∙ N.shows m k

  -- a weight that shows more than high is above the ceiling
  pub over : (n : ℕ) (e : A.Exact) → n ≡ A.shown e → high < n → A.lt A.ceiling e
  over n e s h = lower A.ceiling e (omega (arith, s, h, N.ceiling))

  -- no weight shows less than low
  pub low_shown : (n : ℕ) (e : A.Exact) → n ≡ A.shown e → low ≤ n
  low_shown n e s = omega (arith, s, N.from e)

  -- a number that is taken lies between low and high
  pub taken_within : (n : ℕ) → A.least ≤ n → n ≤ widest → (low ≤ n) × (n ≤ high)
  taken_within n l w =
      let t = A.taken n in
      let s = N.taken n l in
      (omega (arith, s, N.from t), omega (arith, s, shown_within t (N.lawful.fits n l w)))
