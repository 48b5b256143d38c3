-- The test that a decided order gives is one that an agenda can go by. Assumes nothing.
use Rattle.std.proofs.Common.{◌≡◌, ℕ, Bool, true, false, ◌⊎◌, sym, refl, subst, inl, inr, arith}
use Rattle.agenda.specs.Orders.{Ordered, decided}

never : true ≡ false → ⊥
never p = let z : ◌≡◌ {A = ℕ} 0 1 = cc in omega arith

module _ {X : Type 0} {L : X → X → Type 0} (order : (x y : X) → (x ≡ y) ⊎ (L x y ⊎ L y x)) where
  abbrev told : (x y : X) → (x ≡ y) ⊎ (L x y ⊎ L y x) → Bool
  told x y t = elim t [ inl _ ↦ false | inr o ↦ elim o [ inl _ ↦ true | inr _ ↦ false ] ]

  pub decided_true : (x y : X) → decided order x y ≡ true → L x y
  decided_true x y =
      elim (order x y) as (λ t. told x y t ≡ true → L x y) [
        | inl _ ↦ λ h. absurd (never (sym h))
        | inr o ↦ elim o as (λ u. told x y (inr u) ≡ true → L x y) [ inl l ↦ λ h. l | inr _ ↦ λ h. absurd (never (sym h)) ]
      ]

  pub decided_not : (x y : X) → (L x y → ⊥) → decided order x y ≡ false
  decided_not x y n =
      elim (order x y) as (λ t. told x y t ≡ false) [
        | inl _ ↦ refl
        | inr o ↦ elim o as (λ u. told x y (inr u) ≡ false) [ inl l ↦ absurd (n l) | inr _ ↦ refl ]
      ]

  module _ (irrefl : (x : X) → L x x → ⊥) (trans : (x y z : X) → L x y → L y z → L x z) where
    pub decided_false : (x y : X) → decided order x y ≡ false → L x y → ⊥
    decided_false x y =
        elim (order x y) as (λ t. told x y t ≡ false → L x y → ⊥) [
          | inl e ↦ λ h l. irrefl y (subst (λ (z : X). L z y) e l)
          | inr o ↦ elim o as (λ u. told x y (inr u) ≡ false → L x y → ⊥) [ inl _ ↦ λ h l. never h | inr g ↦ λ h l. irrefl x (trans x y x l g) ]
        ]

    pub ordered : Ordered (decided order)
    ordered = record {
      one_way = λ x y h. decided_not y x (λ g. irrefl x (trans x y x (decided_true x y h) g));
      chain = λ x y z h g. decided_not x z (λ l.
          elim (order x y) [
            | inl e ↦ decided_false y z g (subst (λ (w : X). L w z) e l)
            | inr o ↦ elim o [ inl b ↦ decided_false x y h b | inr b ↦ decided_false y z g (trans y x z b l) ]
          ]);
      same = λ x y h g. elim (order x y) [
        | inl e ↦ e
        | inr o ↦ elim o [ inl b ↦ absurd (decided_false x y h b) | inr b ↦ absurd (decided_false y x g b) ]
      ];
    }
