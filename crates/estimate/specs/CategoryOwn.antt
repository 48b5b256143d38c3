-- What the search over steps leaves is the category estimate. Assumes nothing.
use Rattle.std.specs.Prelude.{◌≡◌, ℕ, ◌*◌, ◌/◌, ◌%◌, ◌<◌, ◌⊎◌, List, length, Some, refl}
use Rattle.std.proofs.Common.{sym, ap, subst, ◌∙◌, inl, inr}
use Rattle.std.proofs.lemmas.Bool.{cases_eq}
use Rattle.weight.specs.Algebra.{Algebra, Lawful, Le}
use Rattle.weight.proofs.Orders.{le_refl, le_trans, le_lt, lt_le, lt_le_lt}
use Rattle.grammar.specs.Grammars.{GrammarModel}
use Rattle.grammar.specs.Formed.{WellFormed}
use Rattle.deduction.specs.Deduction.{System, Der, Derives, cost}
use Rattle.estimate.specs.declared.rules.Rule.{Rule}
use Rattle.estimate.specs.Rules.{system}
use Rattle.estimate.specs.Weighing.{categories, Accepted}
use Rattle.estimate.specs.Searches.{at, Solved}
use Rattle.estimate.specs.Chains.{Chain, begin, ChainRule, ChainStep, LightestChain, RowWeight}
use Rattle.estimate.specs.Settling.{category_weight, category_own}
use Rattle.estimate.specs.ChainRules.{chain_of, der_of}
use Rattle.estimate.specs.ChainSteps.{step_held}
use Rattle.estimate.specs.CategoryWeights.{one_chain, category_is}

module _ {A : Algebra} (laws : Lawful A) {W : Type 0} (exact : W → A.Exact) (m : GrammarModel) (formed : WellFormed m) (held : (e : A.Exact) → Le A e A.ceiling → (w : W) × (exact w ≡ e)) where
  -- the value holds the weight
  pub own_holds : (showing : ℕ → W) → ((w : W) → showing (A.shown (exact w)) ≡ w) → (c : ℕ) → exact (category_own A showing m c) ≡ category_weight A m c
  own_holds showing shown c =
      let e = category_weight A m c in
      let w = held e (category_is laws m formed c).within in
      ap (λ (v : A.Exact). exact (showing (A.shown v))) (sym w.1) ∙ ap exact (shown w.0) ∙ w.1

  module _ (accepted : Accepted A m) (within : (w : W) → Le A (exact w) A.ceiling) (nothing : W) (empty : exact nothing ≡ A.none) (row : List W) where
    abbrev n : ℕ
    n = 3 * length m.productions

    abbrev D : System A
    D = system A exact n (ChainRule A exact m)

    tell : (k : ℕ) (r : Rule W) → k < n → ChainRule A exact m k (Some r) → (p : ℕ) × (i : ℕ) × ChainStep A exact m p i r
    tell k r h s = (k / 3, k % 3, s)

    module _ (solved : Solved A exact nothing D (categories m) row) (c : ℕ) (inside : c < categories m) (r : W) (is : RowWeight A exact nothing m.start row c r) where
      back : (v : A.Exact) → Chain A m c v → (c ≡ m.start) ⊎ (A.lt A.ceiling v ⊎ ((d : Der D.Rule) × Derives D d c × Le A (cost D d) v))
      back = der_of laws exact m n (ChainRule A exact m) tell (A.lt A.ceiling) (λ a b. lt_le_lt laws A.ceiling a b) (step_held laws exact m formed accepted held) c

      pub row_chain : LightestChain A m c (exact r)
      row_chain =
          elim (cases_eq c m.start) [
            | inl z ↦
                let e : exact r ≡ A.none = ap exact (is.at_start z) ∙ empty in
                subst (LightestChain A m c) (sym e) (record { within = laws.lowest A.ceiling; least = λ v chain. laws.lowest v; some = inl (subst (λ x. Chain A m x A.none) (sym z) begin) })
            | inr ne ↦ elim (solved c inside) [
              | inl f ↦
                  let e : exact (at A exact nothing row c) ≡ exact r = ap exact (sym (is.reached ne f.0)) in
                  let w = exact (at A exact nothing row c) in
                  subst (LightestChain A m c) e (record {
                    within = within (at A exact nothing row c);
                    least = λ v chain. elim (back v chain) [
                      | inl z ↦ absurd (ne z)
                      | inr o ↦ elim o [
                        | inl over ↦ lt_le laws w v (le_lt laws w A.ceiling v (within (at A exact nothing row c)) over)
                        | inr d ↦ le_trans laws w (cost D d.0) v (f.1.least d.0 d.1) d.2
                      ]
                    ];
                    some = inl (subst (Chain A m c) f.1.some.2 (chain_of laws exact m n (ChainRule A exact m) tell f.1.some.0 c f.1.some.1));
                  })
              | inr f ↦
                  subst (LightestChain A m c) (sym (is.unreached ne f.0)) (record {
                    within = le_refl laws A.ceiling;
                    least = λ v chain. elim (back v chain) [
                      | inl z ↦ absurd (ne z)
                      | inr o ↦ elim o [
                        | inl over ↦ lt_le laws A.ceiling v over
                        | inr d ↦ lt_le laws A.ceiling v (lt_le_lt laws A.ceiling (cost D d.0) v (f.1 d.0 d.1) d.2)
                      ]
                    ];
                    some = inr refl;
                  })
            ]
          ]

      -- so it is the estimate's value
      pub row_own : ((v w : W) → exact v ≡ exact w → v ≡ w) → (showing : ℕ → W) → ((w : W) → showing (A.shown (exact w)) ≡ w) → r ≡ category_own A showing m c
      row_own same showing shown =
          same r (category_own A showing m c) (one_chain laws m c (exact r) (category_weight A m c) row_chain (category_is laws m formed c) ∙ sym (own_holds showing shown c))
