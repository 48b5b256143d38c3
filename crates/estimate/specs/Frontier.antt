-- The heart of every search here: what is not settled costs at least as much as something that a rule gives from settled items. Assumes nothing.
use Rattle.std.specs.Prelude.{ℕ, ◌⊎◌, List, [], ◌∷◌}
use Rattle.std.proofs.Common.{sym, subst, inl, inr}
use Rattle.weight.specs.Algebra.{Algebra, Lawful, Le}
use Rattle.weight.proofs.Orders.{le_refl, le_whole, le_first, le_plus_both, le_plus_right}
use Rattle.grammar.specs.Formed.{Each}
use Rattle.deduction.specs.Deduction.{System, Der, Ders, node, none, more, Derives, DerivesAll, cost, cost_all, sum}

-- value has the lightest cost of each item that is not free; P holds of what rules give from such items for free ones, and of what is not below that
module _ {A : Algebra} (laws : Lawful A) (D : System A) (value : ℕ → A.Exact) (Open : ℕ → Type 0) (decide : (x : ℕ) → Open x ⊎ (Open x → ⊥))
    (least : (x : ℕ) → (Open x → ⊥) → (d : Der D.Rule) → Derives D d x → Le A (value x) (cost D d))
    (P : A.Exact → Type 0) (up : (a b : A.Exact) → P a → Le A a b → P b)
    (offers : (r : D.Rule) → Each (λ p. Open p → ⊥) (D.prems r) → Open (D.concl r) → P (A.plus (D.price r) (sum A value (D.prems r)))) where
  -- P holds of the whole, or all parts are settled and cost no less than their values
  abbrev Either : Ders D.Rule → List ℕ → Type 0
  Either ds ps = P (cost_all D ds) ⊎ (Each (λ p. Open p → ⊥) ps × Le A (sum A value ps) (cost_all D ds))

  mutual
    pub frontier : (d : Der D.Rule) (x : ℕ) → Derives D d x → Open x → P (cost D d)
    frontier (node r ds) x h free =
        let w = D.price r in
        elim (frontier_all ds (D.prems r) h.1) [
          | inl p ↦ up (cost_all D ds) (A.plus w (cost_all D ds)) p (le_whole laws w (cost_all D ds))
          | inr q ↦
              up (A.plus w (sum A value (D.prems r))) (A.plus w (cost_all D ds)) (offers r q.0 (subst Open (sym h.0) free))
              (le_plus_right laws w (sum A value (D.prems r)) (cost_all D ds) q.1)
        ]

    frontier_all : (ds : Ders D.Rule) (ps : List ℕ) → DerivesAll D ds ps → Either ds ps
    frontier_all none [] h = inr (tt, le_refl laws A.none)
    frontier_all none (p ∷ ps) h = absurd h
    frontier_all (more d ds) [] h = absurd h
    frontier_all (more d ds) (p ∷ ps) h =
        elim (decide p) [
          | inl free ↦ inl (up (cost D d) (A.plus (cost D d) (cost_all D ds)) (frontier d p h.0 free) (le_first laws (cost D d) (cost_all D ds)))
          | inr shut ↦ elim (frontier_all ds ps h.1) [
            | inl q ↦ inl (up (cost_all D ds) (A.plus (cost D d) (cost_all D ds)) q (le_whole laws (cost D d) (cost_all D ds)))
            | inr q ↦ inr ((shut, q.0), le_plus_both laws (value p) (cost D d) (sum A value ps) (cost_all D ds) (least p shut d h.0) q.1)
          ]
        ]
