-- Productions as rules, and that their derivations are the trees. Assumes nothing.
use Rattle.std.specs.Prelude.{◌≡◌, ℕ, ◌<◌, List, [], ◌∷◌, length, Some, None, Option, refl}
use Rattle.std.proofs.Common.{sym, ap, subst, ◌∙◌, inl, inr, arith}
use Rattle.arrayvec.specs.ArrayVec.{ArrayVec}
use Rattle.weight.specs.Algebra.{Algebra, Lawful, Le}
use Rattle.grammar.specs.Grammars.{GrammarModel, production, no_production}
use Rattle.grammar.specs.Formed.{Each, WellFormed, ProductionFormed}
use Rattle.grammar.specs.Trees.{Tree, Forest, node, empty, more, TreeIn, TreesIn, all_weight}
use Rattle.grammar.proofs.Each.{each_at}
use Rattle.deduction.specs.Deduction as deduction
use Rattle.deduction.specs.Deduction.{System, Der, Ders, Derives, DerivesAll, cost, cost_all}
use Rattle.estimate.specs.declared.rules.Rule.{Rule}
use Rattle.estimate.specs.Weighing.{categories, tree_weight, Accepted, Light}
use Rattle.estimate.specs.Rules.{premises_of, Inside, system}
use Rattle.estimate.specs.Searches.{Solved, at}
use Rattle.estimate.specs.Settling.{listed}
use Rattle.estimate.specs.TreeRules.{TreeRule}

-- premises are the same where their lists are
pub same_premises : (p q : ArrayVec ℕ) → premises_of p ≡ premises_of q → p ≡ q
same_premises p q e = ap listed e

module _ {A : Algebra} (laws : Lawful A) {W : Type 0} (exact : W → A.Exact) (m : GrammarModel) where
  -- a production has one rule
  pub one_rule : ((v w : W) → exact v ≡ exact w → v ≡ w) → (p : ℕ) (o : Option (Rule W)) (r : Rule W) → TreeRule A exact m p o → TreeRule A exact m p (Some r) → o ≡ Some r
  one_rule same p None r h k = absurd h
  one_rule same p (Some q) r h k =
      let a : q.result ≡ r.result = h.0 ∙ sym k.0 in
      let b : q.premises ≡ r.premises = same_premises q.premises r.premises (h.1 ∙ sym k.1) in
      let c : q.price ≡ r.price = same q.price r.price (h.2 ∙ sym k.2) in
      λ i. Some (record { result = a i; premises = b i; price = c i })

  module _ (formed : WellFormed m) where
    pub production_formed : (p : ℕ) → p < length m.productions → ProductionFormed m.dimensions (production m p)
    production_formed p h = each_at (ProductionFormed m.dimensions) m.productions p no_production formed.productions_formed h

    module _ (accepted : Accepted A m) where
      pub rule_inside : (p : ℕ) (r : Rule W) → p < length m.productions → TreeRule A exact m p (Some r) → Inside A exact (categories m) r
      rule_inside p r h k =
          let f = production_formed p h in
          record {
            result = subst (λ c. c < categories m) (sym k.0) f.category_known;
            premises = subst (Each (λ a. a < categories m)) (sym k.1) f.arguments_known;
            priced = subst (A.lt A.none) (sym k.2) (laws.above (production m p).weight (accepted p h) (omega (arith, f.weight_most)));
          }

      -- a rule for each production
      pub rule_of : ((e : A.Exact) → Le A e A.ceiling → (w : W) × (exact w ≡ e)) → (p : ℕ) → p < length m.productions → (r : Rule W) × TreeRule A exact m p (Some r)
      rule_of held p h =
          let f = production_formed p h in
          let w = held (A.taken (production m p).weight) (laws.fits (production m p).weight (accepted p h) (omega (arith, f.weight_most))) in
          (record { result = (production m p).category; premises = listed (production m p).arguments; price = w.0 }, (refl, refl, w.1))

  -- ---- rules that are the productions
  module _ (gives : ℕ → Option (Rule W) → Type 0) (tell : (p : ℕ) (r : Rule W) → p < length m.productions → gives p (Some r) → TreeRule A exact m p (Some r))
      (rule_for : (p : ℕ) → p < length m.productions → (r : Rule W) × gives p (Some r)) where
    abbrev D : System A
    D = system A exact (length m.productions) gives

    told : (r : D.Rule) → TreeRule A exact m r.0 (Some r.1)
    told r = tell r.0 r.1 r.2 r.3

    -- a derivation is a tree
    mutual
      pub tree_of : Der D.Rule → Tree
      tree_of (deduction.node r ds) = node r.0 (forest_of ds)

      forest_of : Ders D.Rule → Forest
      forest_of deduction.none = empty
      forest_of (deduction.more d ds) = more (tree_of d) (forest_of ds)

    mutual
      unfolding tree_of forest_of

      pub tree_in : (d : Der D.Rule) (c : ℕ) → Derives D d c → TreeIn m c (tree_of d)
      tree_in (deduction.node r ds) c h = (r.2, sym (told r).0 ∙ h.0, forest_in ds (production m r.0).arguments (subst (DerivesAll D ds) (told r).1 h.1))

      forest_in : (ds : Ders D.Rule) (cs : List ℕ) → DerivesAll D ds cs → TreesIn m cs (forest_of ds)
      forest_in deduction.none [] h = tt
      forest_in deduction.none (c ∷ cs) h = absurd h
      forest_in (deduction.more d ds) [] h = absurd h
      forest_in (deduction.more d ds) (c ∷ cs) h = (tree_in d c h.0, forest_in ds cs h.1)

    mutual
      unfolding tree_of forest_of

      pub tree_costs : (d : Der D.Rule) → tree_weight A m (tree_of d) ≡ cost D d
      tree_costs (deduction.node r ds) = λ i. A.plus (sym (told r).2 i) (forest_costs ds i)

      forest_costs : (ds : Ders D.Rule) → all_weight A.plus A.none A.taken m (forest_of ds) ≡ cost_all D ds
      forest_costs deduction.none = refl
      forest_costs (deduction.more d ds) = λ i. A.plus (tree_costs d i) (forest_costs ds i)

    -- and a tree is a derivation
    mutual
      pub der_of : (t : Tree) (c : ℕ) → TreeIn m c t → (d : Der D.Rule) × Derives D d c × (cost D d ≡ tree_weight A m t)
      der_of (node p ts) c h =
          let r = rule_for p h.0 in
          let t = tell p r.0 h.0 r.1 in
          let ds = ders_of ts (production m p).arguments h.2 in (
            deduction.node (p, r.0, h.0, r.1) ds.0,
            (t.0 ∙ h.1, subst (DerivesAll D ds.0) (sym t.1) ds.1),
            λ i. A.plus (t.2 i) (ds.2 i),
          )

      ders_of : (ts : Forest) (cs : List ℕ) → TreesIn m cs ts → (ds : Ders D.Rule) × DerivesAll D ds cs × (cost_all D ds ≡ all_weight A.plus A.none A.taken m ts)
      ders_of empty [] h = (deduction.none, tt, refl)
      ders_of empty (c ∷ cs) h = absurd h
      ders_of (more t ts) [] h = absurd h
      ders_of (more t ts) (c ∷ cs) h =
          let d = der_of t c h.0 in
          let ds = ders_of ts cs h.1 in
          (deduction.more d.0 ds.0, (d.1, ds.1), λ i. A.plus (d.2 i) (ds.2 i))

    -- what a search over the productions has found is the lightest weights
    pub light_row : ((w : W) → Le A (exact w) A.ceiling) → (nothing : W) → exact nothing ≡ A.none → (row : List W) → Solved A exact nothing D (categories m) row → (c : ℕ) → c < categories m → Light A m c (exact (at A exact nothing row c))
    light_row within nothing none_is row solved c h =
        let w = exact (at A exact nothing row c) in
        elim (solved c h) [
          | inl f ↦
              let some = f.1.some in
              inl (record {
                within = within (at A exact nothing row c);
                some = (tree_of some.0, tree_in some.0 c some.1, tree_costs some.0 ∙ some.2);
                least = λ t k. let d = der_of t c k in subst (Le A w) d.2 (f.1.least d.0 d.1);
              })
          | inr f ↦ inr (ap exact f.0 ∙ none_is, λ t k. let d = der_of t c k in subst (A.lt A.ceiling) d.2 (f.1 d.0 d.1))
        ]
