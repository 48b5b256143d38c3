-- The function that settles steps gives the lightest chains, and these are an estimate. Assumes nothing.
use Rattle.std.specs.Prelude.{◌≡◌, ℕ, ◌+◌, ◌*◌, ◌/◌, ◌%◌, ◌<◌, Bool, cond, ◌⊎◌, List, [], length, Some, None, Option, ◌==◌, ◌≢◌, slice_index, slice_index_or, refl}
use Rattle.std.proofs.Common.{sym, ap, ◌∙◌, arith}
use Rattle.std.proofs.Math.Path.{subst}
use Rattle.std.proofs.Math.Logic.{inl, inr}
use Rattle.std.proofs.lemmas.Bool.{eq-eqb, ne_eqb, lt-ltb, le-ltb, cases_eq, cases_lt}
use Rattle.weight.specs.Algebra.{Algebra, Lawful, Le}
use Rattle.weight.proofs.Orders.{le_refl, le_trans, lt_le, lt_le_lt, le_antisym, le_first}
use Rattle.grammar.specs.Grammars.{GrammarModel, production}
use Rattle.grammar.specs.Formed.{WellFormed}
use Rattle.grammar.proofs.Each.{each_at}
use Rattle.deduction.specs.Deduction.{but, Der, Derives, cost}
use Rattle.estimate.specs.declared.rules.Rule.{Rule}
use Rattle.estimate.specs.Rules.{premises_of, Numbered, system}
use Rattle.estimate.specs.Weighing.{categories}
use Rattle.estimate.specs.Estimates.{AllLightest, together, Sound}
use Rattle.estimate.specs.Chains.{Chain, begin, step, way, ChainStep, LightestChain}
use Rattle.estimate.specs.Settling.{listed, cost_at, both, all_of, settled, capped, light, step_rule, chain_rule, category_weight}
use Rattle.estimate.specs.TreeRulesLemmas.{production_formed}
use Rattle.estimate.specs.Settle.{either, some_none, settled_all}
use Rattle.estimate.specs.LightWeights.{within_is, all_some, all_found}
use Rattle.estimate.specs.ChainRules.{chain_of, der_of, of_third}

module _ {A : Algebra} (laws : Lawful A) (m : GrammarModel) where
  -- there is one such weight
  below : (c : ℕ) (v w : A.Exact) → LightestChain A m c v → LightestChain A m c w → Le A v w
  below c v w h k = elim k.some [ inl chain ↦ h.least w chain | inr top ↦ subst (Le A v) (sym top) h.within ]

  pub one_chain : (c : ℕ) (v w : A.Exact) → LightestChain A m c v → LightestChain A m c w → v ≡ w
  one_chain c v w h k = le_antisym laws v w (below c v w h k) (below c w v k h)

  -- the lightest chains are an estimate
  pub chain_sound : (e : ℕ → A.Exact) → ((c : ℕ) → LightestChain A m c (e c)) → Sound A m e
  chain_sound e all = record {
    start = le_antisym laws (e m.start) A.none ((all m.start).least A.none begin) (laws.lowest (e m.start));
    consistent = λ p i ws known argument fellows.
        let q = production m p in
        let b = slice_index_or q.arguments i 0 in
        let t = A.taken q.weight in
        let u = together A ws in
        let a = e q.category in
        elim (all q.category).some [
          | inl chain ↦ (all b).least (A.plus (A.plus a t) u) (step p i ws a known argument fellows chain)
          | inr top ↦
              let up : Le A a (A.plus (A.plus a t) u) = le_trans laws a (A.plus a t) (A.plus (A.plus a t) u) (le_first laws a t) (le_first laws (A.plus a t) u) in
              le_trans laws (e b) a (A.plus (A.plus a t) u) (subst (Le A (e b)) (sym top) (all b).within) up
        ];
  }

  module _ (formed : WellFormed m) where
    abbrev gives : ℕ → Option (Rule A.Exact) → Type 0
    gives k o = chain_rule A m k ≡ o

    abbrev n : ℕ
    n = 3 * length m.productions

    module _ (p i : ℕ) where
      abbrev arguments : List ℕ
      arguments = (production m p).arguments

      abbrev b : ℕ
      b = slice_index arguments i

      abbrev taken : A.Exact
      taken = A.taken (production m p).weight

      abbrev made : A.Exact → Rule A.Exact
      made w = record { result = b; premises = listed (way m (production m p).category); price = w }

      abbrev told : Bool → Bool → Option A.Exact → Option (Rule A.Exact)
      told s t o = cond s (cond t None (elim (both A (Some taken) o) [ None ↦ None | Some w ↦ Some (made w) ])) None

      abbrev fellows : Option A.Exact
      fellows = all_of A (light A m) (but i arguments)

      step_is : i < length arguments → (b ≢ m.start) → (u : A.Exact) → fellows ≡ Some u → step_rule A m p i ≡ Some (made (A.plus taken u))
      step_is inside away u h = λ j. told (lt-ltb i (length arguments) inside j) (ne_eqb b m.start away j) (h j)

      step_from : p < length m.productions → (r : Rule A.Exact) → step_rule A m p i ≡ Some r → ChainStep A (λ e. e) m p i r
      step_from known r h =
          elim (cases_lt i (length arguments)) [
            | inr out ↦ absurd (some_none h (ap (λ s. told s (b == m.start) fellows) (le-ltb i (length arguments) out)))
            | inl inside ↦ elim (cases_eq b m.start) [
              | inl z ↦ absurd (some_none h (λ j. told (lt-ltb i (length arguments) inside j) (eq-eqb b m.start z j) fellows))
              | inr away ↦ elim (either fellows) [
                | inr q ↦ absurd (some_none h (λ j. told (lt-ltb i (length arguments) inside j) (ne_eqb b m.start away j) (q j)))
                | inl q ↦
                    let found = all_found laws m formed (but i arguments) q.0 q.1 in
                    let is : Some (made (A.plus taken q.0)) ≡ Some r = sym (step_is inside away q.0 q.1) ∙ h in
                    let same : made (A.plus taken q.0) ≡ r = cc in
                    subst (ChainStep A (λ e. e) m p i) same (record {
                      known = known;
                      argument = inside;
                      weights = found.0;
                      fellows = found.1;
                      away = away;
                      result = refl;
                      premises = refl;
                      price = ap (A.plus taken) found.2;
                    })
              ]
            ]
          ]

    tell : (k : ℕ) (r : Rule A.Exact) → k < n → gives k (Some r) → (p : ℕ) × (i : ℕ) × ChainStep A (λ e. e) m p i r
    tell k r h g = (k / 3, k % 3, step_from (k / 3) (k % 3) (omega arith) r g)

    inside : (k : ℕ) (r : Rule A.Exact) → k < n → gives k (Some r) → r.result < categories m
    inside k r h g =
        let s = step_from (k / 3) (k % 3) (omega arith) r g in
        subst (λ c. c < categories m) (sym s.result) (each_at (λ a. a < categories m) (production m (k / 3)).arguments (k % 3) 0 (production_formed laws (λ e. e) m formed (k / 3) s.known).arguments_known s.argument)

    complete : (p i : ℕ) (ws : List A.Exact) → p < length m.productions → i < length (production m p).arguments → AllLightest A m (but i (production m p).arguments) ws → (slice_index (production m p).arguments i ≢ m.start)
        → ((r : Numbered n gives) × (r.1.result ≡ slice_index (production m p).arguments i) × (premises_of r.1.premises ≡ way m (production m p).category) × (r.1.price ≡ A.plus (A.taken (production m p).weight) (together A ws))) ⊎ ⊥
    complete p i ws known argument fell away =
        let few = (production_formed laws (λ e. e) m formed p known).arguments_most in
        let third = of_third p i (omega (arith, few)) in
        let given : chain_rule A m (3 * p + i) ≡ Some (made p i (A.plus (taken p i) (together A ws))) =
        (λ j. step_rule A m (third.0 j) (third.1 j)) ∙ step_is p i argument away (together A ws) (all_some laws m formed (but i (arguments p i)) ws fell) in
        let few' : i < 3 = omega (arith, few) in
        inl ((3 * p + i, made p i (A.plus (taken p i) (together A ws)), omega arith, given), refl, refl, refl)

    pub category_is : (c : ℕ) → LightestChain A m c (category_weight A m c)
    unfolding category_weight
    category_is c =
        let end = settled A n (chain_rule A m) (categories m) [] in
        let all = settled_all laws n (chain_rule A m) (categories m) inside in
        let C : Option A.Exact → A.Exact = λ o. elim o [ None ↦ A.ceiling | Some w ↦ capped A w ] in
        let K : Option A.Exact → A.Exact = λ o. elim o [ None ↦ A.ceiling | Some v ↦ v ] in
        let L : A.Exact → Type 0 = LightestChain A m c in
        let back : (v : A.Exact) → Chain A m c v → (c ≡ m.start) ⊎ (⊥ ⊎ ((d : Der (system A (λ e. e) n gives).Rule) × Derives (system A (λ e. e) n gives) d c × Le A (cost (system A (λ e. e) n gives) d) v)) =
        der_of laws (λ e. e) m n gives tell (λ _. ⊥) (λ a b f l. f) complete c in
        elim (cases_eq c m.start) [
          | inl z ↦ subst L (sym (ap (λ s. cond s A.none (C (cost_at end c))) (eq-eqb c m.start z))) (record {
            within = laws.lowest A.ceiling;
            least = λ v chain. laws.lowest v;
            some = inl (subst (λ x. Chain A m x A.none) (sym z) begin);
          })
          | inr ne ↦ subst L (sym (ap (λ s. cond s A.none (C (cost_at end c))) (ne_eqb c m.start ne))) (elim (either (cost_at end c)) [
            | inr p ↦ subst L (sym (ap C p)) (record {
              within = le_refl laws A.ceiling;
              least = λ v chain. elim (back v chain) [ inl z ↦ absurd (ne z) | inr o ↦ elim o [ inl f ↦ absurd f | inr d ↦ absurd (all.1 c p d.0 d.1) ] ];
              some = inr refl;
            })
            | inl p ↦
                let w = p.0 in
                let found = all.0 c w p.1 in
                let low : (v : A.Exact) → Chain A m c v → Le A w v =
                λ v chain. elim (back v chain) [ inl z ↦ absurd (ne z) | inr o ↦ elim o [ inl f ↦ absurd f | inr d ↦ le_trans laws w (cost (system A (λ e. e) n gives) d.0) v (found.least d.0 d.1) d.2 ] ] in
                subst L (sym (ap C p.1)) (elim (within_is laws w) [
                  | inl q ↦ subst L (sym (ap K q.0)) (record {
                    within = q.1;
                    least = low;
                    some = inl (subst (Chain A m c) found.some.2 (chain_of laws (λ e. e) m n gives tell found.some.0 c found.some.1));
                  })
                  | inr q ↦ subst L (sym (ap K q.0)) (record {
                    within = le_refl laws A.ceiling;
                    least = λ v chain. lt_le laws A.ceiling v (lt_le_lt laws A.ceiling w v q.1 (low v chain));
                    some = inr refl;
                  })
                ])
          ])
        ]
