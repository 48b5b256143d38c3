-- The function that settles productions gives the lightest weights. Assumes nothing.
use Rattle.std.specs.Prelude.{◌≡◌, ℕ, ◌<◌, ◌⊎◌, List, [], ◌∷◌, length, Some, None, Option, refl}
use Rattle.std.proofs.Common.{sym, ◌∙◌, arith}
use Rattle.std.proofs.Math.Path.{ap, subst}
use Rattle.std.proofs.Math.Logic.{inl, inr}
use Rattle.weight.specs.Algebra.{Algebra, Lawful, Le}
use Rattle.weight.proofs.Orders.{le_eq, lt_le, lt_le_lt, le_antisym, le_first}
use Rattle.grammar.specs.Grammars.{GrammarModel, production}
use Rattle.grammar.specs.Formed.{WellFormed}
use Rattle.grammar.specs.Trees.{Tree, node, TreeIn, all_weight}
use Rattle.estimate.specs.declared.rules.Rule.{Rule}
use Rattle.estimate.specs.Weighing.{categories, tree_weight, Accepted, Lightest, Unproductive}
use Rattle.estimate.specs.TreeRules.{TreeRule}
use Rattle.estimate.specs.Estimates.{AllLightest, together}
use Rattle.estimate.specs.Settling.{listed, cost_at, both, all_of, settled, tree_rule, within, light}
use Rattle.estimate.specs.TreeRulesLemmas.{production_formed, tree_of, tree_in, tree_costs, der_of}
use Rattle.estimate.specs.Settle.{either, some_none, settled_all}

module _ {A : Algebra} (laws : Lawful A) where
  pub within_is : (w : A.Exact) → ((within A w ≡ Some w) × Le A w A.ceiling) ⊎ ((within A w ≡ None) × A.lt A.ceiling w)
  within_is w =
      let T : (w ≡ A.ceiling) ⊎ (A.lt w A.ceiling ⊎ A.lt A.ceiling w) → Option A.Exact = λ t. elim t [ inl _ ↦ Some w | inr o ↦ elim o [ inl _ ↦ Some w | inr _ ↦ None ] ] in
      elim (A.order w A.ceiling) as (λ t. ((T t ≡ Some w) × Le A w A.ceiling) ⊎ ((T t ≡ None) × A.lt A.ceiling w)) [
        | inl e ↦ inl (refl, le_eq laws w A.ceiling e)
        | inr o ↦ elim o as (λ u. ((T (inr u) ≡ Some w) × Le A w A.ceiling) ⊎ ((T (inr u) ≡ None) × A.lt A.ceiling w)) [ inl l ↦ inl (refl, lt_le laws w A.ceiling l) | inr l ↦ inr (refl, l) ]
      ]

  -- a category has one lightest weight
  pub one_lightest : (m : GrammarModel) (c : ℕ) (v w : A.Exact) → Lightest A m c v → Lightest A m c w → v ≡ w
  one_lightest m c v w h k =
      le_antisym laws v w (subst (Le A v) k.some.2 (h.least k.some.0 k.some.1)) (subst (Le A w) h.some.2 (k.least h.some.0 h.some.1))

  pub not_both : (m : GrammarModel) (c : ℕ) (w : A.Exact) → Lightest A m c w → Unproductive A m c → ⊥
  not_both m c w h k = subst (λ (v : A.Exact). Le A v A.ceiling) (sym h.some.2) h.within (k h.some.0 h.some.1)

  pub all_one : (m : GrammarModel) (cs : List ℕ) (vs ws : List A.Exact) → AllLightest A m cs vs → AllLightest A m cs ws → together A vs ≡ together A ws
  all_one m [] [] [] h k = refl
  all_one m [] [] (w ∷ ws) h k = absurd k
  all_one m [] (v ∷ vs) ws h k = absurd h
  all_one m (c ∷ cs) [] ws h k = absurd h
  all_one m (c ∷ cs) (v ∷ vs) [] h k = absurd k
  all_one m (c ∷ cs) (v ∷ vs) (w ∷ ws) h k = λ i. A.plus (one_lightest m c v w h.0 k.0 i) (all_one m cs vs ws h.1 k.1 i)

  module _ (m : GrammarModel) (formed : WellFormed m) where
    -- a tree weighs something
    pub tree_above : Accepted A m → (t : Tree) (c : ℕ) → TreeIn m c t → A.lt A.none (tree_weight A m t)
    tree_above accepted (node p ts) c h =
        let w = A.taken (production m p).weight in
        let rest = all_weight A.plus A.none A.taken m ts in
        lt_le_lt laws A.none w (A.plus w rest) (laws.above (production m p).weight (accepted p h.0) (omega (arith, (production_formed laws (λ e. e) m formed p h.0).weight_most))) (le_first laws w rest)

    abbrev gives : ℕ → Option (Rule A.Exact) → Type 0
    gives p o = tree_rule A m p ≡ o

    tell : (p : ℕ) (r : Rule A.Exact) → p < length m.productions → gives p (Some r) → TreeRule A (λ e. e) m p (Some r)
    tell p r h e =
        subst (TreeRule A (λ v. v) m p) e (refl, refl, refl)

    rule_for : (p : ℕ) → p < length m.productions → (r : Rule A.Exact) × gives p (Some r)
    rule_for p h = (record { result = (production m p).category; premises = listed (production m p).arguments; price = A.taken (production m p).weight }, refl)

    inside : (p : ℕ) (r : Rule A.Exact) → p < length m.productions → gives p (Some r) → r.result < categories m
    inside p r h e = subst (λ c. c < categories m) (sym (tell p r h e).0) (production_formed laws (λ v. v) m formed p h).category_known

    -- light is the lightest weight, or there is none
    pub light_is : (c : ℕ) → ((w : A.Exact) × (light A m c ≡ Some w) × Lightest A m c w) ⊎ ((light A m c ≡ None) × Unproductive A m c)
    unfolding light
    light_is c =
        let end = settled A (length m.productions) (tree_rule A m) (categories m) [] in
        let all = settled_all laws (length m.productions) (tree_rule A m) (categories m) inside in
        let L : Option A.Exact → Option A.Exact = λ o. elim o [ None ↦ None | Some w ↦ within A w ] in
        elim (either (cost_at end c)) [
          | inl p ↦
              let w = p.0 in
              let found = all.0 c w p.1 in
              let some = found.some in
              let least : (t : Tree) → TreeIn m c t → Le A w (tree_weight A m t) =
              λ t k. let d = der_of laws (λ e. e) m gives tell rule_for t c k in subst (Le A w) d.2 (found.least d.0 d.1) in
              elim (within_is w) [
                | inl q ↦ inl (
                  w,
                  ap L p.1 ∙ q.0,
                  record {
                    within = q.1;
                    some = (tree_of laws (λ e. e) m gives tell rule_for some.0, tree_in laws (λ e. e) m gives tell rule_for some.0 c some.1, tree_costs laws (λ e. e) m gives tell rule_for some.0 ∙ some.2);
                    least = least;
                  },
                )
                | inr q ↦ inr (ap L p.1 ∙ q.0, λ t k. lt_le_lt laws A.ceiling w (tree_weight A m t) q.1 (least t k))
              ]
          | inr p ↦ inr (ap L p, λ t k. let d = der_of laws (λ e. e) m gives tell rule_for t c k in absurd (all.1 c p d.0 d.1))
        ]

    pub light_some : (c : ℕ) (w : A.Exact) → Lightest A m c w → light A m c ≡ Some w
    light_some c w h =
        elim (light_is c) [
          | inl p ↦ p.1 ∙ ap (λ (v : A.Exact). Some v) (one_lightest m c p.0 w p.2 h)
          | inr p ↦ absurd (not_both m c w h p.1)
        ]

    -- the same for several
    pub all_some : (cs : List ℕ) (ws : List A.Exact) → AllLightest A m cs ws → all_of A (light A m) cs ≡ Some (together A ws)
    all_some [] [] h = refl
    all_some [] (w ∷ ws) h = absurd h
    all_some (c ∷ cs) [] h = absurd h
    all_some (c ∷ cs) (w ∷ ws) h = λ i. both A (light_some c w h.0 i) (all_some cs ws h.1 i)

    pub all_found : (cs : List ℕ) (u : A.Exact) → all_of A (light A m) cs ≡ Some u → (ws : List A.Exact) × AllLightest A m cs ws × (u ≡ together A ws)
    all_found [] u h = ([], tt, let z : u ≡ A.none = cc in z)
    all_found (c ∷ cs) u h =
        elim (light_is c) [
          | inl p ↦ elim (either (all_of A (light A m) cs)) [
            | inl q ↦
                let rest = all_found cs q.0 q.1 in
                let whole : Some u ≡ Some (A.plus p.0 q.0) = sym h ∙ (λ i. both A (p.1 i) (q.1 i)) in
                let z : u ≡ A.plus p.0 q.0 = cc in
                (p.0 ∷ rest.0, (p.2, rest.1), z ∙ ap (A.plus p.0) rest.2)
            | inr q ↦ absurd (some_none h (λ i. both A (p.1 i) (q i)))
          ]
          | inr p ↦ absurd (some_none h (ap (λ (o : Option A.Exact). both A o (all_of A (light A m) cs)) p.0))
        ]
