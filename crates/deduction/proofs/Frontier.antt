-- Every derivation with a key is settled, or some entry of the agenda is not after it. Assumes nothing.
use Rattle.std.proofs.Common.{◌≡◌, ℕ, ◌⊎◌, List, [], ◌∷◌, sym, ap, ◌∙◌, subst, inl, inr}
use Rattle.weight.specs.Algebra.{Algebra, Lawful}
use Rattle.weight.proofs.Orders.{le_lt, lt_cancel, cases}
use Rattle.deduction.specs.Deduction.{System, Priced, Der, Ders, node, none, more, Each, Key, Before, NotAfter, Derives, DerivesAll, cost, NoWorse, NoWorseAll, key, Keyed, Consistent}
use Rattle.deduction.specs.Search.{Item, Served, Least, Searched}
use Rattle.deduction.proofs.Keys.{not_after_before, before_not_after, not_after_trans}
use Rattle.deduction.proofs.Derivations.{no_worse_trans, no_worse_keyed, no_worse_key, exchange, children}

module _ {A : Algebra} (laws : Lawful A) (D : System A) (e : ℕ → A.Exact) (priced : Priced D) (consistent : Consistent D e) (S Q : Der D.Rule → ℕ → Type 0) (xs : List ℕ) (at : Searched D e S Q xs) where
  -- some entry is not after K
  abbrev Waiting : Key A → Type 0
  Waiting K = (c : Der D.Rule) × (y : ℕ) × Q c y × NotAfter A (key D e c y) K

  -- all are settled, or some entry is before K
  abbrev Ready : Key A → Ders D.Rule → List ℕ → Type 0
  Ready K ds ys =
      ((cs : Ders D.Rule) × Each S cs ys × NoWorseAll D cs ds) ⊎ ((c : Der D.Rule) × (y : ℕ) × Q c y × Before A (key D e c y) K)

  -- where all parts are settled
  settle : (r : D.Rule) (cs ds : Ders D.Rule) → Each S cs (D.prems r) → NoWorseAll D cs ds → Keyed D e (node r ds) (D.concl r)
      → Item S (D.concl r) ⊎ Served D Q (node r ds) (D.concl r)
  settle r cs ds rec no-worse k =
      let h = exchange laws D r cs ds no-worse in
      elim (at.closed r cs rec (no_worse_keyed laws D e (node r cs) (node r ds) (D.concl r) h k)) [
        | inl i ↦ inl i
        | inr s ↦ inr (s.0, s.1, no_worse_trans laws D s.0 (node r cs) (node r ds) s.2 h)
      ]

  mutual
    pub frontier : (d : Der D.Rule) (x : ℕ) → Derives D d x → Keyed D e d x → Item S x ⊎ Waiting (key D e d x)
    frontier (node r ds) x h k =
        let back : Keyed D e (node r ds) (D.concl r) = subst (Keyed D e (node r ds)) (sym h.0) k in
        let K = key D e (node r ds) (D.concl r) in
        let P : ℕ → Type 0 = λ y. Item S y ⊎ Waiting (key D e (node r ds) y) in
        subst P h.0
        (elim (frontier_all ds (D.prems r) K h.1 (children laws D e priced consistent r ds h.1 back)) [
          | inr w ↦ inr (w.0, w.1, w.2, before_not_after laws (key D e w.0 w.1) K w.3)
          | inl all ↦
              elim (settle r all.0 ds all.1 all.2 back) [
                | inl i ↦ inl i
                | inr s ↦ inr (s.0, D.concl r, s.1, no_worse_key laws D e s.0 (node r ds) (D.concl r) s.2)
              ]
        ])

    pub frontier_all : (ds : Ders D.Rule) (ys : List ℕ) (K : Key A) → DerivesAll D ds ys → Each (λ d y. Keyed D e d y × Before A (key D e d y) K) ds ys → Ready K ds ys
    frontier_all none [] K h b = inl (none, tt, tt)
    frontier_all none (y ∷ ys) K h b = absurd h
    frontier_all (more d ds) [] K h b = absurd h
    frontier_all (more d ds) (y ∷ ys) K h b =
        elim (frontier d y h.0 b.0.0) [
          | inr w ↦ inr (w.0, w.1, w.2, not_after_before laws (key D e w.0 w.1) (key D e d y) K w.3 b.0.1)
          | inl i ↦
              elim (frontier_all ds ys K h.1 b.1) [
                | inr w ↦ inr w
                | inl all ↦ inl (more i.0 all.0, (i.1, all.1), (at.best i.0 y i.1 d h.0, all.2))
              ]
        ]

  -- the key depends on the cost alone
  same_cost : (c d : Der D.Rule) (x : ℕ) → cost D c ≡ cost D d → key D e c x ≡ key D e d x
  same_cost c d x h = λ i. record { whole = A.plus (h i) (e x); cost = h i; item = x }

  module _ (s : Der D.Rule) (x : ℕ) (q : Least D e Q s x) where
    -- no entry is before the least one
    none_before : (c : Der D.Rule) (y : ℕ) → Q c y → Before A (key D e c y) (key D e s x) → ⊥
    none_before c y = q.least c y

    pub not_settled : Item S x → ⊥
    not_settled i = at.fresh i.0 s x i.1 q.entry

    -- a derivation with a key is not before the least entry
    pub pop_key : (d : Der D.Rule) → Derives D d x → Keyed D e d x → NotAfter A (key D e s x) (key D e d x)
    pop_key d h k =
        elim (frontier d x h k) [
          | inl i ↦ absurd (not_settled i)
          | inr w ↦ not_after_trans laws (key D e s x) (key D e w.0 w.1) (key D e d x) (q.least w.0 w.1 w.2) w.3
        ]

    -- of those as heavy none is before the least entry
    pop_equal : (d : Der D.Rule) → Derives D d x → Keyed D e d x → cost D s ≡ cost D d → NoWorse D s d
    pop_equal (node r ds) h k same =
        let back : Keyed D e (node r ds) (D.concl r) = subst (Keyed D e (node r ds)) (sym h.0) k in
        let K = key D e (node r ds) (D.concl r) in
        let this : K ≡ key D e s x = ap (key D e (node r ds)) h.0 ∙ sym (same_cost s (node r ds) x same) in
        elim (frontier_all ds (D.prems r) K h.1 (children laws D e priced consistent r ds h.1 back)) [
          | inr w ↦ absurd (none_before w.0 w.1 w.2 (subst (λ (l : Key A). Before A (key D e w.0 w.1) l) this w.3))
          | inl all ↦
              elim (settle r all.0 ds all.1 all.2 back) [
                | inl i ↦ absurd (not_settled (subst (Item S) h.0 i))
                | inr t ↦
                    let one : t.0 ≡ s = at.single t.0 s x (subst (Q t.0) h.0 t.1) q.entry in
                    subst (λ (c : Der D.Rule). NoWorse D c (node r ds)) one t.2
              ]
        ]

    -- the least entry is no worse than any derivation of its item
    pub pop : (d : Der D.Rule) → Derives D d x → NoWorse D s d
    pop d h =
        elim (cases laws A.ceiling (A.plus (cost D d) (e x))) [
          | inr over ↦ inl (lt_cancel laws (cost D s) (cost D d) (e x) (le_lt laws (A.plus (cost D s) (e x)) A.ceiling (A.plus (cost D d) (e x)) (at.queued s x q.entry).keyed over))
          | inl k ↦ elim (A.order (cost D s) (cost D d)) [
            | inl same ↦ pop_equal d h k same
            | inr o ↦ elim o [
              | inl l ↦ inl l
              | inr l ↦ absurd (pop_key d h k (inl (laws.rises (cost D d) (cost D s) (e x) l)))
            ]
          ]
        ]
