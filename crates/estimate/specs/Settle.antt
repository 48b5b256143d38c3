-- What is settled cheapest first has its lightest cost, and in the end nothing else has a derivation. Assumes nothing.
use Rattle.std.specs.Prelude.{◌≡◌, ℕ, zero, suc, ◌+◌, ◌<◌, ◌≤◌, Bool, true, false, cond, ◌⊎◌, List, [], ◌∷◌, Some, None, Option, ◌≢◌}
use Rattle.std.proofs.Math.Path.{refl, ap}
use Rattle.std.proofs.Common.{sym, subst, ◌∙◌}
use Rattle.std.proofs.Math.Logic.{inl, inr}
use native.Mathlib.Omega.{arith}
use Rattle.std.proofs.lemmas.Bool.{both_ways, eq-eqb, ne_eqb, cases_eq}
use Rattle.weight.specs.Algebra.{Algebra, Lawful, Le}
use Rattle.weight.proofs.Orders.{le_refl, le_trans}
use Rattle.grammar.specs.Formed.{Each}
use Rattle.deduction.specs.Deduction.{System, Der, Ders, node, none, more, Derives, DerivesAll, cost, cost_all, sum}
use Rattle.estimate.specs.declared.entry.Entry.{Entry}
use Rattle.estimate.specs.declared.rules.Rule.{Rule}
use Rattle.estimate.specs.Entries.{cheaper}
use Rattle.estimate.specs.Rules.{premises_of, system}
use Rattle.estimate.specs.Searches.{Reached, Found}
use Rattle.estimate.specs.Settling.{cost_at, both, all_of, first, offer_of, cheapest, settled}
use Rattle.estimate.specs.Cheaper.{not_out, cheaper_more}
use Rattle.estimate.specs.Frontier.{frontier}

pub either : {X : Type 0} (o : Option X) → ((x : X) × (o ≡ Some x)) ⊎ (o ≡ None)
either None = inr refl
either (Some x) = inl (x, refl)

pub some_none : {X : Type 0} {o : Option X} {x : X} → o ≡ Some x → o ≢ None
some_none p q = let z : ◌≡◌ {A = ℕ} 0 1 = cc in omega arith

-- ---- entries
module _ {E : Type 0} (e : Entry E) (es : List (Entry E)) where
  pub at_here : (x : ℕ) → x ≡ e.category → cost_at (e ∷ es) x ≡ Some e.cost
  at_here x p = ap (λ b. cond b (Some e.cost) (cost_at es x)) (eq-eqb x e.category p)

  pub at_other : (x : ℕ) → (x ≢ e.category) → cost_at (e ∷ es) x ≡ cost_at es x
  at_other x ne = ap (λ b. cond b (Some e.cost) (cost_at es x)) (ne_eqb x e.category ne)

-- how many items below n are not settled
one : {E : Type 0} → Option E → ℕ
one None = 1
one (Some _) = 0

one_most : {E : Type 0} (o : Option E) → one o ≤ 1
unfolding one
one_most None = omega arith
one_most (Some _) = omega arith

pub opens : {E : Type 0} → List (Entry E) → ℕ → ℕ
opens es zero = 0
opens es (suc k) = one (cost_at es k) + opens es k

module _ {E : Type 0} where
  pub opens_none : (es : List (Entry E)) (n x : ℕ) → opens es n ≡ 0 → x < n → cost_at es x ≢ None
  unfolding opens one
  opens_none es zero x all l free = omega arith
  opens_none es (suc k) x all l free =
      elim (cases_eq x k) [
        | inl p ↦ let q : one (cost_at es k) ≡ 1 = ap one (ap (cost_at es) (sym p) ∙ free) in omega (arith, q)
        | inr ne ↦ opens_none es k x (omega arith) (omega arith) free
      ]

  pub opens_all : (es : List (Entry E)) (n : ℕ) → opens es n ≤ n
  unfolding opens
  opens_all es zero = omega arith
  opens_all es (suc k) = let h = opens_all es k in let l = one_most (cost_at es k) in omega (arith, h, l)

  module _ (e : Entry E) (es : List (Entry E)) where
    opens_same : (n : ℕ) → n ≤ e.category → opens (e ∷ es) n ≡ opens es n
    unfolding opens
    opens_same zero h = refl
    opens_same (suc k) h = let q = ap one (at_other e es k (λ p. omega arith)) in let r = opens_same k (omega arith) in omega (arith, q, r)

    pub opens_less : (n : ℕ) → e.category < n → cost_at es e.category ≡ None → suc (opens (e ∷ es) n) ≡ opens es n
    unfolding opens one
    opens_less zero h free = absurd (omega arith)
    opens_less (suc k) h free =
        elim (cases_eq e.category k) [
          | inl p ↦
              let a : one (cost_at (e ∷ es) k) ≡ 0 = ap one (at_here e es k (sym p)) in
              let b : one (cost_at es k) ≡ 1 = ap one (ap (cost_at es) (sym p) ∙ free) in
              let c = opens_same k (omega arith) in
              omega (arith, a, b, c)
          | inr ne ↦
              let a = ap one (at_other e es k (λ p. ne (sym p))) in
              let c = opens_less k (omega arith) free in
              omega (arith, a, c)
        ]

-- ---- the cheaper of two
module _ {A : Algebra} (laws : Lawful A) where
  abbrev X : Type 0
  X = Entry A.Exact

  pick : (b : Bool) (e f : X) → cond b (Some f) (Some e) ≡ Some (cond b f e)
  pick true e f = refl
  pick false e f = refl

  first_none : (o p : Option X) → first A o p ≡ None → (o ≡ None) × (p ≡ None)
  first_none None p h = (refl, h)
  first_none (Some e) None h = absurd (some_none refl h)
  first_none (Some e) (Some f) h = absurd (some_none (pick (cheaper A (λ v. v) f e) e f) h)

  -- the one picked is one of the two, and not dearer than either
  picked : (b : Bool) (e f : X) → cheaper A (λ v. v) f e ≡ b → ((cond b f e ≡ e) ⊎ (cond b f e ≡ f)) × Le A (cond b f e).cost e.cost × Le A (cond b f e).cost f.cost
  picked true e f h = (inr refl, (λ l. both_ways (cheaper A (λ v. v) f e) (cheaper_more laws (λ v. v) f e l) h), le_refl laws f.cost)
  picked false e f h = (inl refl, le_refl laws e.cost, (not_out laws (λ v. v) f e h).0)

  one_value : {o : Option X} {e f : X} → o ≡ Some e → o ≡ Some f → e ≡ f
  one_value p q = cc

  first_some : (o p : Option X) (e : X) → first A o p ≡ Some e → ((o ≡ Some e) ⊎ (p ≡ Some e)) × ((f : X) → (o ≡ Some f) ⊎ (p ≡ Some f) → Le A e.cost f.cost)
  first_some None p e h = (inr h, λ f w. elim w [ inl q ↦ absurd (some_none q refl) | inr q ↦ subst (λ (g : X). Le A e.cost g.cost) (one_value h q) (le_refl laws e.cost) ])
  first_some (Some d) None e h = (inl h, λ f w. elim w [ inl q ↦ subst (λ (g : X). Le A e.cost g.cost) (one_value h q) (le_refl laws e.cost) | inr q ↦ absurd (some_none q refl) ])
  first_some (Some d) (Some c) e h =
      let b = cheaper A (λ v. v) c d in
      let is : cond b c d ≡ e = one_value (pick b d c) h in
      let k = picked b d c refl in (
        elim k.0 [ inl q ↦ inl (ap (λ (g : X). Some g) (sym q ∙ is)) | inr q ↦ inr (ap (λ (g : X). Some g) (sym q ∙ is)) ],
        λ f w. elim w [
          | inl q ↦ subst (λ (g : X). Le A e.cost g.cost) (one_value refl q) (subst (λ (g : X). Le A g.cost d.cost) is k.1)
          | inr q ↦ subst (λ (g : X). Le A e.cost g.cost) (one_value refl q) (subst (λ (g : X). Le A g.cost c.cost) is k.2)
        ],
      )

  -- ---- turns
  module _ (n : ℕ) (rule : ℕ → Option (Rule A.Exact)) where
    abbrev D : System A
    D = system A (λ e. e) n (λ k o. rule k ≡ o)

    module _ (es : List X) where
      cheapest_none : (k : ℕ) → cheapest A n rule es k ≡ None → (j : ℕ) → j < k → offer_of A n rule es (rule j) ≡ None
      cheapest_none zero h j l = absurd (omega arith)
      cheapest_none (suc k) h j l =
          let p = first_none (cheapest A n rule es k) (offer_of A n rule es (rule k)) h in
          elim (cases_eq j k) [ inl e ↦ ap (λ i. offer_of A n rule es (rule i)) e ∙ p.1 | inr ne ↦ cheapest_none k p.0 j (omega arith) ]

      abbrev From : ℕ → X → Type 0
      From k e = (j : ℕ) × (j < k) × (offer_of A n rule es (rule j) ≡ Some e)

      cheapest_some : (k : ℕ) (e : X) → cheapest A n rule es k ≡ Some e → From k e × ((f : X) → From k f → Le A e.cost f.cost)
      cheapest_some zero e h = absurd (some_none h refl)
      cheapest_some (suc k) e h =
          let o = cheapest A n rule es k in
          let p = offer_of A n rule es (rule k) in
          let t = first_some o p e h in (
            elim t.0 [ inl q ↦ let w = (cheapest_some k e q).0 in (w.0, omega (arith, w.1), w.2) | inr q ↦ (k, omega arith, q) ],
            λ f w.
                elim (cases_eq w.0 k) [
                  | inl z ↦ t.1 f (inr (ap (λ i. offer_of A n rule es (rule i)) (sym z) ∙ w.2))
                  | inr ne ↦
                      let old : From k f = (w.0, omega (arith, w.1), w.2) in
                      elim (either o) [
                        | inl q ↦ le_trans laws e.cost q.0.cost f.cost (t.1 q.0 (inl q.1)) ((cheapest_some k q.0 q.1).1 f old)
                        | inr q ↦ absurd (some_none w.2 (cheapest_none k q w.0 old.1))
                      ]
                ],
          )

      -- ---- what is settled, as a search has it
      abbrev value : ℕ → A.Exact
      value x = elim (cost_at es x) [ None ↦ A.none | Some w ↦ w ]

      abbrev Open : ℕ → Type 0
      Open x = cost_at es x ≡ None

      decide : (x : ℕ) → Open x ⊎ (Open x → ⊥)
      decide x = elim (either (cost_at es x)) [ inl p ↦ inr (some_none p.1) | inr p ↦ inl p ]

      value_is : (x : ℕ) (w : A.Exact) → cost_at es x ≡ Some w → value x ≡ w
      value_is x w p = ap (λ (o : Option A.Exact). elim o [ None ↦ A.none | Some v ↦ v ]) p

      shut_is : (x : ℕ) → (Open x → ⊥) → cost_at es x ≡ Some (value x)
      shut_is x shut = elim (either (cost_at es x)) [ inl p ↦ p.1 ∙ ap (λ (w : A.Exact). Some w) (sym (value_is x p.0 p.1)) | inr p ↦ absurd (shut p) ]

      all_is : (ps : List ℕ) → Each (λ p. Open p → ⊥) ps → all_of A (cost_at es) ps ≡ Some (sum A value ps)
      all_is [] h = refl
      all_is (p ∷ ps) h = λ i. both A (shut_is p h.0 i) (all_is ps h.1 i)

      all_shut : (ps : List ℕ) (u : A.Exact) → all_of A (cost_at es) ps ≡ Some u → Each (λ p. Open p → ⊥) ps
      all_shut [] u h = tt
      all_shut (p ∷ ps) u h =
          elim (either (cost_at es p)) [
            | inl q ↦ elim (either (all_of A (cost_at es) ps)) [
              | inl r ↦ (some_none q.1, all_shut ps r.0 r.1)
              | inr r ↦ absurd (some_none h (λ i. both A (q.1 i) (r i)))
            ]
            | inr q ↦ absurd (some_none h (ap (λ (o : Option A.Exact). both A o (all_of A (cost_at es) ps)) q))
          ]

      module _ (r : Rule A.Exact) where
        abbrev ps : List ℕ
        ps = premises_of r.premises

        abbrev told : Option A.Exact → Option A.Exact → Option X
        told o q = elim o [ Some _ ↦ None | None ↦ elim (both A (Some r.price) q) [ None ↦ None | Some w ↦ Some (record { cost = w; category = r.result }) ] ]

        offer_is : Each (λ p. Open p → ⊥) ps → Open r.result → offer_of A n rule es (Some r) ≡ Some (record { cost = A.plus r.price (sum A value ps); category = r.result })
        offer_is all free = λ i. told (free i) (all_is ps all i)

        offer_from : (e : X) → offer_of A n rule es (Some r) ≡ Some e → Open r.result × Each (λ p. Open p → ⊥) ps × (e ≡ record { cost = A.plus r.price (sum A value ps); category = r.result })
        offer_from e h =
            elim (either (cost_at es r.result)) [
              | inl q ↦ absurd (some_none h (ap (λ (o : Option A.Exact). told o (all_of A (cost_at es) ps)) q.1))
              | inr free ↦ elim (either (all_of A (cost_at es) ps)) [
                | inl q ↦ let all = all_shut ps q.0 q.1 in (free, all, one_value h (offer_is all free))
                | inr q ↦ absurd (some_none h (λ i. told (free i) (q i)))
              ]
            ]

      -- a turn
      module _ (good : (x : ℕ) (w : A.Exact) → cost_at es x ≡ Some w → Found D x w) where
        least_of : (x : ℕ) → (Open x → ⊥) → (d : Der D.Rule) → Derives D d x → Le A (value x) (cost D d)
        least_of x shut = (good x (value x) (shut_is x shut)).least

        gather : (qs : List ℕ) → Each (λ p. Open p → ⊥) qs → (ds : Ders D.Rule) × DerivesAll D ds qs × (cost_all D ds ≡ sum A value qs)
        gather [] h = (none, tt, refl)
        gather (p ∷ qs) h =
            let d = (good p (value p) (shut_is p h.0)).some in
            let rest = gather qs h.1 in
            (more d.0 rest.0, (d.1, rest.1), λ i. A.plus (d.2 i) (rest.2 i))

        -- no rule gives anything
        nothing_left : cheapest A n rule es n ≡ None → (x : ℕ) → Open x → (d : Der D.Rule) → Derives D d x → ⊥
        nothing_left h x free d k =
            frontier laws D value Open decide least_of (λ _. ⊥) (λ a b f l. f)
            (λ r all open'. some_none (ap (offer_of A n rule es) r.3 ∙ offer_is r.1 all open') (cheapest_none n h r.0 r.2)) d x k free

        module _ (e : X) (h : cheapest A n rule es n ≡ Some e) where
          from : From n e
          from = (cheapest_some n e h).0

          made : (r : Rule A.Exact) × (rule from.0 ≡ Some r)
          made = elim (either (rule from.0)) [ inl p ↦ p | inr p ↦ absurd (some_none from.2 (ap (offer_of A n rule es) p)) ]

          told_of : Open made.0.result × Each (λ p. Open p → ⊥) (premises_of made.0.premises) × (e ≡ record { cost = A.plus made.0.price (sum A value (premises_of made.0.premises)); category = made.0.result })
          told_of = offer_from made.0 e (ap (offer_of A n rule es) (sym made.1) ∙ from.2)

          pub turn_free : Open e.category
          turn_free = subst (λ (f : X). Open f.category) (sym told_of.2) told_of.0

          turn_found : Found D e.category e.cost
          turn_found = record {
            some =
                let r = made.0 in
                let parts = gather (premises_of r.premises) told_of.1 in
                subst (λ (f : X). Reached D f.category f.cost) (sym told_of.2)
                (node (from.0, r, from.1, made.1) parts.0, (refl, parts.1), ap (A.plus r.price) parts.2);
            least = λ d k.
                frontier laws D value Open decide least_of (Le A e.cost) (λ a b. le_trans laws e.cost a b)
                (λ r all open'. (cheapest_some n e h).1 (record { cost = A.plus r.1.price (sum A value (premises_of r.1.premises)); category = r.1.result }) (r.0, r.2, ap (offer_of A n rule es) r.3 ∙ offer_is r.1 all open'))
                d e.category k turn_free;
          }

          turn_good : (x : ℕ) (w : A.Exact) → cost_at (e ∷ es) x ≡ Some w → Found D x w
          turn_good x w p =
              elim (cases_eq x e.category) [
                | inl z ↦
                    let v : w ≡ e.cost = let a = at_here e es x z in cc in
                    subst (Found D x) (sym v) (subst (λ y. Found D y e.cost) (sym z) turn_found)
                | inr ne ↦ good x w (sym (at_other e es x ne) ∙ p)
              ]

    -- ---- all turns
    module _ (size : ℕ) (inside : (k : ℕ) (r : Rule A.Exact) → k < n → rule k ≡ Some r → r.result < size) where
      abbrev Good : List X → Type 0
      Good es = (x : ℕ) (w : A.Exact) → cost_at es x ≡ Some w → Found D x w

      abbrev Done : List X → Type 0
      Done es = (x : ℕ) → cost_at es x ≡ None → (d : Der D.Rule) → Derives D d x → ⊥

      all_settled : (es : List X) → opens es size ≡ 0 → Done es
      all_settled es none_open x free (node r ds) h = opens_none es size x none_open (subst (λ y. y < size) h.0 (inside r.0 r.1 r.2 r.3)) free

      in_range : (es : List X) (good : Good es) (e : X) (h : cheapest A n rule es n ≡ Some e) → e.category < size
      in_range es good e h =
          let d = (turn_found es good e h).some in
          derived d.0 d.1
        where
          derived : (d : Der D.Rule) → Derives D d e.category → e.category < size
          derived (node r ds) k = subst (λ y. y < size) k.0 (inside r.0 r.1 r.2 r.3)

      settled_done : (t : ℕ) (es : List X) → Good es → opens es size ≤ t → Good (settled A n rule t es) × Done (settled A n rule t es)
      settled_done zero es good few = (good, all_settled es (omega arith))
      settled_done (suc t) es good few =
          let Next : Option X → List X = λ o. elim o [ None ↦ es | Some e ↦ settled A n rule t (e ∷ es) ] in
          let P : Option X → Type 0 = λ o. Good (Next o) × Done (Next o) in
          elim (either (cheapest A n rule es n)) [
            | inl q ↦
                let e = q.0 in
                let less = opens_less e es size (in_range es good e q.1) (turn_free es good e q.1) in
                let rest : P (Some e) = settled_done t (e ∷ es) (turn_good es good e q.1) (omega (arith, less)) in
                subst P (sym q.1) rest
            | inr q ↦ let rest : P None = (good, nothing_left es good q) in subst P (sym q) rest
          ]

      -- after as many turns as there are items
      pub settled_all : Good (settled A n rule size []) × Done (settled A n rule size [])
      settled_all = settled_done size [] (λ x w h. absurd (some_none h refl)) (opens_all [] size)
