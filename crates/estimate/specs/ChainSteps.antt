-- Steps read from a grammar and a row of lightest weights. Assumes nothing.
use Rattle.std.specs.Prelude.{◌≡◌, ℕ, zero, suc, ◌+◌, ◌*◌, ◌/◌, ◌%◌, ◌<◌, ◌⊎◌, List, [], ◌∷◌, length, Some, None, Option, ◌≢◌, slice_index, refl}
use Rattle.std.proofs.Common.{sym, ap, subst, subst₂, ◌∙◌, inl, inr, arith}
use Rattle.std.proofs.lemmas.Bool.{cases_eq}
use Rattle.weight.specs.Algebra.{Algebra, Lawful, Le}
use Rattle.weight.proofs.Orders.{lt_le_lt, le_first, cases}
use Rattle.grammar.specs.Grammars.{GrammarModel, production}
use Rattle.grammar.specs.Formed.{Each, WellFormed}
use Rattle.grammar.proofs.Each.{each_at}
use Rattle.deduction.specs.Deduction.{but}
use Rattle.estimate.specs.declared.rules.Rule.{Rule}
use Rattle.estimate.specs.Rules.{premises_of, Inside, Numbered}
use Rattle.estimate.specs.Weighing.{categories, Accepted, Lightest, LightestRow}
use Rattle.estimate.specs.Estimates.{AllLightest, together}
use Rattle.estimate.specs.Searches.{at, Open, worth, AllSettled}
use Rattle.estimate.specs.Chains.{way, ChainStep, ChainRule}
use Rattle.estimate.specs.Settling.{listed}
use Rattle.estimate.specs.TreeRulesLemmas.{same_premises, production_formed}
use Rattle.estimate.specs.LightWeights.{one_lightest, not_both, all_one, tree_above}
use Rattle.estimate.specs.ChainRules.{way_start, way_other, of_third}

-- ---- all arguments but one
pub but_each : (P : ℕ → Type 0) (xs : List ℕ) (i : ℕ) → Each P xs → Each P (but i xs)
but_each P [] i h = tt
but_each P (x ∷ xs) zero h = h.1
but_each P (x ∷ xs) (suc i) h = (h.0, but_each P xs i h.1)

module _ {A : Algebra} (laws : Lawful A) {W : Type 0} (exact : W → A.Exact) (m : GrammarModel) where
  -- a number has one rule
  pub chain_one : ((w : W) → Le A (exact w) A.ceiling) → ((v w : W) → exact v ≡ exact w → v ≡ w) → (k : ℕ) (o : Option (Rule W)) (r : Rule W) → ChainRule A exact m k o → ChainRule A exact m k (Some r) → o ≡ Some r
  chain_one within same k None r h s = absurd (subst (λ (e : A.Exact). Le A e A.ceiling) s.price (within r.price) (h s.weights s.argument s.fellows s.away))
  chain_one within same k (Some q) r h s =
      let p = k / 3 in
      let a : q.result ≡ r.result = h.result ∙ sym s.result in
      let b : q.premises ≡ r.premises = same_premises q.premises r.premises (h.premises ∙ sym s.premises) in
      let u = all_one laws m (but (k % 3) (production m p).arguments) h.weights s.weights h.fellows s.fellows in
      let c : q.price ≡ r.price = same q.price r.price (h.price ∙ ap (A.plus (A.taken (production m p).weight)) u ∙ sym s.price) in
      λ i. Some (record { result = a i; premises = b i; price = c i })

module _ {A : Algebra} (laws : Lawful A) {W : Type 0} (exact : W → A.Exact) (m : GrammarModel) (formed : WellFormed m) (accepted : Accepted A m) where
  -- ---- the row of lightest weights
  module _ (nothing : W) (same : (v w : W) → exact v ≡ exact w → v ≡ w) (empty : exact nothing ≡ A.none) (low : List W) (right : LightestRow A exact m low) where
    -- a category with a lightest weight is not marked
    settled_one : (c : ℕ) (w : A.Exact) → c < categories m → Lightest A m c w → (Open A exact nothing low c → ⊥) × (exact (at A exact nothing low c) ≡ w)
    settled_one c w inside h =
        elim (right c nothing inside) [
          | inl k ↦ (
            λ free.
                let z : w ≡ A.none = one_lightest laws m c w (exact (at A exact nothing low c)) h k ∙ ap exact free ∙ empty in
                laws.irrefl A.none (subst (A.lt A.none) (h.some.2 ∙ z) (tree_above laws m formed accepted h.some.0 c h.some.1)),
            one_lightest laws m c (exact (at A exact nothing low c)) w k h,
          )
          | inr k ↦ absurd (not_both laws m c w h k.1)
        ]

    pub lightest_settled : (cs : List ℕ) (ws : List A.Exact) → Each (λ c. c < categories m) cs → AllLightest A m cs ws → AllSettled A exact nothing low cs × (worth A exact nothing low cs ≡ together A ws)
    lightest_settled [] [] inside h = (tt, refl)
    lightest_settled [] (w ∷ ws) inside h = absurd h
    lightest_settled (c ∷ cs) [] inside h = absurd h
    lightest_settled (c ∷ cs) (w ∷ ws) inside h =
        let one = settled_one c w inside.0 h.0 in
        let rest = lightest_settled cs ws inside.1 h.1 in
        ((one.0, rest.0), λ i. A.plus (one.1 i) (rest.1 i))

    pub settled_lightest : (cs : List ℕ) → Each (λ c. c < categories m) cs → AllSettled A exact nothing low cs → (ws : List A.Exact) × AllLightest A m cs ws × (worth A exact nothing low cs ≡ together A ws)
    settled_lightest [] inside h = ([], tt, refl)
    settled_lightest (c ∷ cs) inside h =
        let v = at A exact nothing low c in
        let rest = settled_lightest cs inside.1 h.1 in
        elim (right c nothing inside.0) [
          | inl k ↦ (exact v ∷ rest.0, (k, rest.1), ap (A.plus (exact v)) rest.2)
          | inr k ↦ absurd (h.0 (same v nothing (k.0 ∙ sym empty)))
        ]

  pub chain_inside : (k : ℕ) (r : Rule W) → ChainRule A exact m k (Some r) → Inside A exact (categories m) r
  chain_inside k r s =
      let p = k / 3 in
      let f = production_formed laws exact m formed p s.known in
      let t = A.taken (production m p).weight in
      let u = together A s.weights in
      let a = (production m p).category in
      record {
        result = subst (λ c. c < categories m) (sym s.result) (each_at (λ x. x < categories m) (production m p).arguments (k % 3) 0 f.arguments_known s.argument);
        premises = subst (Each (λ x. x < categories m)) (sym s.premises) (elim (cases_eq a m.start) [
          | inl z ↦ subst (Each (λ x. x < categories m)) (sym (way_start m a z)) tt
          | inr ne ↦ subst (Each (λ x. x < categories m)) (sym (way_other m a ne)) (f.category_known, tt)
        ]);
        priced = subst (A.lt A.none) (sym s.price) (lt_le_lt laws A.none t (A.plus t u) (laws.above (production m p).weight (accepted p s.known) (omega (arith, f.weight_most))) (le_first laws t u));
      }

  -- every step has a rule, but those whose price is above the ceiling
  pub step_held : ((e : A.Exact) → Le A e A.ceiling → (w : W) × (exact w ≡ e)) → (p i : ℕ) (ws : List A.Exact) → p < length m.productions → i < length (production m p).arguments → AllLightest A m (but i (production m p).arguments) ws → (slice_index (production m p).arguments i ≢ m.start)
      → ((r : Numbered (3 * length m.productions) (ChainRule A exact m)) × (r.1.result ≡ slice_index (production m p).arguments i) × (premises_of r.1.premises ≡ way m (production m p).category) × (exact r.1.price ≡ A.plus (A.taken (production m p).weight) (together A ws)))
      ⊎ A.lt A.ceiling (A.plus (A.taken (production m p).weight) (together A ws))
  step_held held p i ws known argument fellows away =
      let price = A.plus (A.taken (production m p).weight) (together A ws) in
      elim (cases laws A.ceiling price) [
        | inr heavy ↦ inr heavy
        | inl fits ↦
            let w = held price fits in
            let r : Rule W = record { result = slice_index (production m p).arguments i; premises = listed (way m (production m p).category); price = w.0 } in
            let few = (production_formed laws exact m formed p known).arguments_most in
            let third = of_third p i (omega (arith, few)) in
            let s : ChainStep A exact m p i r = record {
              known = known;
              argument = argument;
              weights = ws;
              fellows = fellows;
              away = away;
              result = refl;
              premises = refl;
              price = w.1;
            } in
            let given : ChainStep A exact m ((3 * p + i) / 3) ((3 * p + i) % 3) r = (let S : ℕ → ℕ → Type 0 = λ a b. ChainStep A exact m a b r in subst₂ S (sym third.0) (sym third.1) s) in
            let small : i < 3 = omega (arith, few) in
            inl ((3 * p + i, r, omega arith, given), refl, refl, w.1)
      ]
