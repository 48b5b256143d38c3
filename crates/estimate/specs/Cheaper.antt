-- The order of entries: by cost and then by number, as the exact weights say, and total. Assumes nothing.
use Rattle.std.specs.Prelude.{◌≡◌, ℕ, ◌<◌, ◌≤◌, Bool, true, false, ltb, cond, ◌⊎◌, ◌==◌, nat_lt}
use Rattle.std.proofs.Math.Path.{refl}
use Rattle.std.proofs.Common.{Ordering, Less, Equal, Greater, is_lt, nat_cmp, sym, subst, ◌∙◌}
use Rattle.std.proofs.Math.Logic.{inl, inr}
use Rattle.std.proofs.lemmas.Bool.{both_ways, ltb-true, ltb-false, le-ltb}
use Rattle.std.proofs.Math.Nat.{le_of_lt, le_trans as nat_trans, le_antisymm as nat_antisym}
use Rattle.std.specs.Ordering.{ordering_then}
use Rattle.weight.specs.Algebra.{Algebra, Lawful, Le, Compared}
use Rattle.weight.proofs.Orders.{le_eq, lt_le, le_trans, le_antisym, le_cases}
use Rattle.agenda.specs.Levels.{then_level}
use Rattle.agenda.specs.Orders.{Ordered, before}
use Rattle.estimate.specs.declared.entry.Entry.{Entry}
use Rattle.estimate.specs.Entries.{cheaper}

-- whether the answer is `Less` is the test by which it was found
first_test : (b c : Bool) → is_lt (cond b Less (cond c Equal Greater)) ≡ b
first_test true c = refl
first_test false true = refl
first_test false false = refl

module _ {A : Algebra} (laws : Lawful A) {W : Type 0} (exact : W → A.Exact) where
  module _ (x y : Entry W) where
    abbrev a : A.Exact
    a = exact x.cost

    abbrev b : A.Exact
    b = exact y.cost

    abbrev told : (a ≡ b) ⊎ (A.lt a b ⊎ A.lt b a) → Bool
    told t = elim t [ inl _ ↦ ltb x.category y.category | inr o ↦ elim o [ inl _ ↦ true | inr _ ↦ false ] ]

    pub cheaper_less : A.lt a b → cheaper A exact x y ≡ true
    unfolding cheaper
    cheaper_less h =
        elim (A.order a b) as (λ t. told t ≡ true) [
          | inl e ↦ absurd (le_eq laws b a (sym e) h)
          | inr o ↦ elim o as (λ u. told (inr u) ≡ true) [ inl l ↦ refl | inr l ↦ absurd (lt_le laws b a l h) ]
        ]

    pub cheaper_level : a ≡ b → cheaper A exact x y ≡ nat_lt x.category y.category
    unfolding cheaper
    cheaper_level h =
        elim (A.order a b) as (λ t. told t ≡ nat_lt x.category y.category) [
          | inl e ↦ refl
          | inr o ↦ elim o as (λ u. told (inr u) ≡ nat_lt x.category y.category) [ inl l ↦ absurd (le_eq laws b a (sym h) l) | inr l ↦ absurd (le_eq laws a b h l) ]
        ]

    pub cheaper_more : A.lt b a → cheaper A exact x y ≡ false
    unfolding cheaper
    cheaper_more h =
        elim (A.order a b) as (λ t. told t ≡ false) [
          | inl e ↦ absurd (le_eq laws a b e h)
          | inr o ↦ elim o as (λ u. told (inr u) ≡ false) [ inl l ↦ absurd (lt_le laws a b l h) | inr l ↦ refl ]
        ]

    -- x comes first exactly if it costs less, or as much with a lower number
    first_out : cheaper A exact x y ≡ true → A.lt a b ⊎ ((a ≡ b) × (x.category < y.category))
    first_out h =
        elim (A.order a b) [
          | inl e ↦ inr (e, ltb-true x.category y.category (sym (cheaper_level e) ∙ h))
          | inr o ↦ elim o [ inl l ↦ inl l | inr l ↦ absurd (both_ways (cheaper A exact x y) (cheaper_more l) h) ]
        ]

    pub not_out : cheaper A exact x y ≡ false → Le A b a × (a ≡ b → y.category ≤ x.category)
    not_out h = (
      λ l. both_ways (cheaper A exact x y) h (cheaper_less l),
      λ e. ltb-false x.category y.category (sym (cheaper_level e) ∙ h),
    )

    not_in : Le A b a → (a ≡ b → y.category ≤ x.category) → cheaper A exact x y ≡ false
    not_in h k =
        elim (le_cases laws b a h) [
          | inl e ↦ cheaper_level (sym e) ∙ le-ltb x.category y.category (k (sym e))
          | inr l ↦ cheaper_more l
        ]

  -- the order is total wherever weights of one exact weight are one, of exact weights themselves too
  pub ordered : ((v w : W) → exact v ≡ exact w → v ≡ w) → Ordered (cheaper A exact)
  ordered same = record {
    one_way = λ x y h. elim (first_out x y h) [
      | inl l ↦ cheaper_more y x l
      | inr p ↦ not_in y x (le_eq laws (exact x.cost) (exact y.cost) p.0) (λ e. le_of_lt p.1)
    ];
    chain = λ x y z h k.
        let p = not_out x y h in
        let q = not_out y z k in
        let a = exact x.cost in
        let b = exact y.cost in
        let c = exact z.cost in
        not_in x z (le_trans laws c b a q.0 p.0) (λ e.
        let up : Le A a b = le_trans laws a c b (le_eq laws a c e) q.0 in
        let s : a ≡ b = le_antisym laws a b up p.0 in
        nat_trans (q.1 (sym s ∙ e)) (p.1 s));
    same = λ x y h k.
        let p = not_out x y h in
        let q = not_out y x k in
        let s : exact x.cost ≡ exact y.cost = le_antisym laws (exact x.cost) (exact y.cost) q.0 p.0 in
        let v : x.cost ≡ y.cost = same x.cost y.cost s in
        let w : x.category ≡ y.category = nat_antisym (q.1 (sym s)) (p.1 s) in
        λ i. record { cost = v i; category = w i };
  }

-- ---- the order that is derived, where values are compared as their exact weights
-- by cost, and at one cost by number
abbrev pub by_cost : {W : Type 0} → (W → W → Ordering) → Entry W → Entry W → Ordering
by_cost cmp x y = ordering_then (cmp x.cost y.cost) (nat_cmp x.category y.category)

module _ (A : Algebra) {W : Type 0} (exact : W → A.Exact) (cmp : W → W → Ordering) (compared : (v w : W) → Compared A (exact v) (exact w) (cmp v w)) where
  -- entries of one rank are one, by any order of categories in which those of one rank are one
  pub entries_alike : ((v w : W) → exact v ≡ exact w → v ≡ w) → (by : ℕ → ℕ → Ordering) → ((m n : ℕ) → by m n ≡ Equal → m ≡ n) → (x y : Entry W) → ordering_then (cmp x.cost y.cost) (by x.category y.category) ≡ Equal → x ≡ y
  entries_alike same by level x y h =
      let one = then_level (cmp x.cost y.cost) (by x.category y.category) h in
      let tied : exact x.cost ≡ exact y.cost = subst (Compared A (exact x.cost) (exact y.cost)) one.0 (compared x.cost y.cost) in
      let p = same x.cost y.cost tied in
      let q = level x.category y.category one.1 in
      λ i. record { cost = p i; category = q i }

  ranked : (laws : Lawful A) (x y : Entry W) (r : Ordering) → Compared A (exact x.cost) (exact y.cost) r → is_lt (ordering_then r (nat_cmp x.category y.category)) ≡ cheaper A exact x y
  ranked laws x y Less h = sym (cheaper_less laws exact x y h)
  ranked laws x y Equal h = first_test (nat_lt x.category y.category) (x.category == y.category) ∙ sym (cheaper_level laws exact x y h)
  ranked laws x y Greater h = sym (cheaper_more laws exact x y h)

  -- the cheaper comes first
  pub by_cost_cheaper : Lawful A → before (by_cost cmp) ≡ cheaper A exact
  by_cost_cheaper laws = λ i x y. ranked laws x y (cmp x.cost y.cost) (compared x.cost y.cost) i
