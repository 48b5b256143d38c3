-- A row of which it is only known that it has the lightest weights: that there is one row, so that these can be told. Assumes nothing.
use Rattle.std.proofs.Common.{◌≡◌, List, get_or, sym, ap, ◌∙◌, subst, inl, inr}
use Rattle.std.proofs.Math.Logic.{∥∥₁_elim}
use Rattle.weight.specs.Algebra.{Algebra, Lawful, Le}
use Rattle.grammar.specs.Grammars.{GrammarModel}
use Rattle.grammar.specs.Formed.{WellFormed}
use Rattle.estimate.specs.Weighing.{Lightest, LightestRow}
use Rattle.estimate.specs.LightWeights.{one_lightest, not_both, light_is}

module _ {A : Algebra} (laws : Lawful A) {W : Type 0} (exact : W → A.Exact) (set : (x y : W) → IsProp (x ≡ y)) (m : GrammarModel) (formed : WellFormed m)
    (held : (e : A.Exact) → Le A e A.ceiling → (w : W) × (exact w ≡ e)) (same : (v w : W) → exact v ≡ exact w → v ≡ w) (nothing : W) (empty : exact nothing ≡ A.none) where
  pub row_told : (low : List W) → ∥ LightestRow A exact m low ∥₁ → LightestRow A exact m low
  row_told low known c d inside =
      let v = get_or low c d in
      elim (light_is laws m formed c) [
        | inl p ↦
            let w = held p.0 p.2.within in
            let is : v ≡ w.0 =
            ∥∥₁_elim known (set v w.0)
            (λ (row : LightestRow A exact m low). same v w.0 (elim (row c d inside) [ inl k ↦ one_lightest laws m c (exact v) p.0 k p.2 ∙ sym w.1 | inr k ↦ absurd (not_both laws m c p.0 p.2 k.1) ])) in
            inl (subst (Lightest A m c) (sym (ap exact is ∙ w.1)) p.2)
        | inr p ↦
            let is : v ≡ nothing =
            ∥∥₁_elim known (set v nothing)
            (λ (row : LightestRow A exact m low). same v nothing (elim (row c d inside) [ inl k ↦ absurd (not_both laws m c (exact v) k p.1) | inr k ↦ k.0 ∙ sym empty ])) in
            inr (ap exact is ∙ empty, p.1)
      ]
