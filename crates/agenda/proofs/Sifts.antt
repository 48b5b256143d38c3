-- What each step of a sift keeps. Assumes nothing.
use Rattle.std.proofs.Common.{◌≡◌, ℕ, zero, suc, ◌+◌, ◌-◌, ◌*◌, ◌/◌, ◌<◌, ◌≤◌, Bool, true, false, refl, ap, ◌∙◌, ⊎_elim, arith}
use Rattle.std.proofs.lemmas.Bool.{cases_eq}
use Rattle.std.proofs.lemmas.List.Edits.{Swapped}
use Rattle.agenda.specs.Orders.{Ordered, Child, HeapAt, UpAt, DownAt, FirstChildAt}

-- either a is b, or it is not
split : {G : Type 0} (a b : ℕ) → (a ≡ b → G) → ((a ≡ b → ⊥) → G) → G
split a b same other = ⊎_elim same other (cases_eq a b)

module _ {X : Type 0} (lt : X → X → Bool) where
  pub by : (a b x y : X) → a ≡ x → b ≡ y → lt x y ≡ false → lt a b ≡ false
  by a b x y p q h = (λ k. lt (p k) (q k)) ∙ h

  pub up_top : (f : ℕ → X) (j n : ℕ) → j ≡ 0 → UpAt lt f j n → HeapAt lt f n
  up_top f j n z h p k c l = h.0 p k c l (omega arith)

  pub up_rests : (f : ℕ → X) (q j n : ℕ) → Child q j → lt (f j) (f q) ≡ false → UpAt lt f j n → HeapAt lt f n
  up_rests f q j n a t h p k c l = split k j
      (λ e. let u : p ≡ q = omega arith in by _ _ _ _ (ap f e) (ap f u) t)
      (λ ne. h.0 p k c l ne)

  pub down_leaf : (f : ℕ → X) (j n : ℕ) → n ≤ j * 2 + 1 → DownAt lt f j n → HeapAt lt f n
  down_leaf f j n z h p k c l = h.0 p k c l (omega arith)

  module _ (o : Ordered lt) where
    never : (x : X) (b : Bool) → lt x x ≡ b → lt x x ≡ false
    never x true e = o.one_way x x e
    never x false e = e

    itself : (f : ℕ → X) (j k : ℕ) → k ≡ j → lt (f k) (f j) ≡ false
    itself f j k e = by _ _ _ _ (ap f e) refl (never (f j) _ refl)

    pub left_first : (f : ℕ → X) (j c n : ℕ) → c ≡ j * 2 + 1 → (c + 1 < n → lt (f (c + 1)) (f c) ≡ false) → FirstChildAt lt f j c n
    left_first f j c n e t k a l = split k c (itself f c k) (λ ne. let u : k ≡ c + 1 = omega arith in by _ _ _ _ (ap f u) refl (t (omega arith)))

    pub right_first : (f : ℕ → X) (j c n : ℕ) → c ≡ j * 2 + 1 → lt (f (c + 1)) (f c) ≡ true → FirstChildAt lt f j (c + 1) n
    right_first f j c n e t k a l = split k (c + 1) (itself f (c + 1) k) (λ ne. let u : k ≡ c = omega arith in by _ _ _ _ (ap f u) refl (o.one_way _ _ t))

    pub down_rests : (f : ℕ → X) (j c n : ℕ) → lt (f c) (f j) ≡ false → FirstChildAt lt f j c n → DownAt lt f j n → HeapAt lt f n
    down_rests f j c n t first h p k a l = split p j
        (λ e. by _ _ _ _ refl (ap f e) (o.chain _ _ _ (first k (omega arith, omega arith) l) t))
        (λ ne. h.0 p k a l ne)

    -- no value comes before the top of a heap
    pub top : (f : ℕ → X) (n : ℕ) → HeapAt lt f n → (fuel k : ℕ) → k ≤ fuel → k < n → lt (f k) (f 0) ≡ false
    top f n h zero k a l = itself f 0 k (omega arith)
    top f n h (suc fuel) k a l = split k 0 (itself f 0 k)
        (λ ne. o.chain _ _ _ (h ((k - 1) / 2) k (omega arith, omega arith) l) (top f n h fuel ((k - 1) / 2) (omega arith) (omega arith)))

    -- f has the values at q and its child j in the order of which g has them exchanged
    module _ (f g : ℕ → X) (q j n m : ℕ) (child : Child q j) (within : j < n) (long : m ≡ n) (s : Swapped f g q j) (t : lt (f j) (f q) ≡ true) where
      pub up_steps : UpAt lt f j n → UpAt lt g q m
      up_steps h = (
        λ p k c l ne. split k j
            (λ e. let u : p ≡ q = omega arith in by _ _ _ _ (ap g e ∙ s.1) (ap g u ∙ s.0) (o.one_way _ _ t))
            (λ nj. split p q
            (λ e. by _ _ _ _ (s.2 k ne nj) (ap g e ∙ s.0) (o.chain _ _ _ (h.0 q k (omega arith, omega arith) (omega arith) nj) (o.one_way _ _ t)))
            (λ u. split p j
            (λ e. by _ _ _ _ (s.2 k ne nj) (ap g e ∙ s.1) (h.1 q k child (omega arith, omega arith) (omega arith)))
            (λ v. by _ _ _ _ (s.2 k ne nj) (s.2 p u v) (h.0 p k c (omega arith) nj)))),
        λ p k a b l. split k j
            (λ e. by _ _ _ _ (ap g e ∙ s.1) (s.2 p (omega arith) (omega arith)) (h.0 p q a (omega arith) (omega arith)))
            (λ nj. by _ _ _ _ (s.2 k (omega arith) nj) (s.2 p (omega arith) (omega arith)) (o.chain _ _ _ (h.0 q k b (omega arith) nj) (h.0 p q a (omega arith) (omega arith)))),
      )

      pub down_steps : FirstChildAt lt f q j n → DownAt lt f q n → DownAt lt g j m
      down_steps first h = (
        λ p k c l ne. split p q
            (λ e. split k j
            (λ u. by _ _ _ _ (ap g u ∙ s.1) (ap g e ∙ s.0) (o.one_way _ _ t))
            (λ u. by _ _ _ _ (s.2 k (omega arith) u) (ap g e ∙ s.0) (first k (omega arith, omega arith) (omega arith))))
            (λ u. split k q
            (λ e. by _ _ _ _ (ap g e ∙ s.0) (s.2 p u ne) (h.1 p j (omega arith, omega arith) child within))
            (λ v. by _ _ _ _ (s.2 k v (omega arith)) (s.2 p u ne) (h.0 p k c (omega arith) u))),
        λ p k a b l. let u : p ≡ q = omega arith in by _ _ _ _ (s.2 k (omega arith) (omega arith)) (ap g u ∙ s.0) (h.0 j k b (omega arith) (omega arith)),
      )
