use Rattle.std.proofs.Common.{◌≡◌, ℕ, ◌/◌, ◌%◌, ◌<◌, cond, eqb, List, [], ◌∷◌, length, get_or, sym, ap, ◌∙◌, subst, arith}
use Rattle.grammar.specs.Formed.{Each}
use Rattle.grammar.specs.Grammars.{ProductionModel, production}
use Rattle.grammar.specs.Model.{model}
use Rattle.grammar.proofs.Formed.{formed_is}
use Rattle.grammar.proofs.Each.{each_map}
use Rattle.deduction.specs.Deduction.{but}
use Rattle.estimate.specs.Weighing.{categories}
use Rattle.estimate.specs.Rules.{premises_of}
use Rattle.estimate.specs.Estimates.{together}
use Rattle.estimate.specs.Searches.{worth, AllSettled}
use Rattle.estimate.specs.Chains.{ChainRule}
use Rattle.estimate.specs.TreeRulesLemmas.{production_formed}
use Rattle.estimate.specs.ChainSteps.{but_each, lightest_settled, settled_lightest}
use base.Stored.{Coded-set}
use Rattle.estimate.proofs.Told.{row_told}
use Rattle.estimate.proofs.chains.WeighedGrammarRules.rule.Goals as goal

pub weigh-requires : goal.weigh-requires
weigh-requires g c =
    let m = model c.args.self.now.accepted.grammar.now in
    let p = c.args.k / 3 in
    let i = c.args.k % 3 in
    let inside : p < length m.productions = omega (arith, c.requires) in
    let args : c.arguments-arguments.result.now ≡ (production m p).arguments = c.arguments-arguments.ensures ∙ ap (λ (q : ProductionModel). q.arguments) c.production_at-production.ensures in
    let f = production_formed g.met.W.Weight.lawful g.W.Weight.exact m (formed_is m c.args.self.now.accepted.grammar.now.well_formed) p inside in
    let n = length c.args.self.now.low.now in
    let all : Each (λ x. x < n) (but i (production m p).arguments) = but_each (λ x. x < n) (production m p).arguments i (each_map (λ x. x < categories m) (λ x. x < n) (production m p).arguments (λ x l. omega (arith, l, c.args.self.now.long)) f.arguments_known) in
    subst (Each (λ x. x < n)) (sym (c.fellows.ensures ∙ ap (but i) args)) all

pub returns-in_err-weigh : goal.returns-in_err-weigh
returns-in_err-weigh g c =
    let m = model c.args.self.now.accepted.grammar.now in
    let p = c.args.k / 3 in
    let i = c.args.k % 3 in
    let inside : p < length m.productions = omega (arith, c.requires) in
    let args : c.arguments-arguments.result.now ≡ (production m p).arguments = c.arguments-arguments.ensures ∙ ap (λ (q : ProductionModel). q.arguments) c.production_at-production.ensures in
    let formed = formed_is m c.args.self.now.accepted.grammar.now.well_formed in
    let A = g.W.Weight.algebra in
    let w = g.met.W.Weight in
    let exact = g.W.Weight.exact in
    let nothing = g.W.Weight.nothing in
    let f = production_formed w.lawful exact m formed p inside in
    let low = c.args.self.now.low.now in
    let right = row_told w.lawful exact (Coded-set g.row.W.coded) m formed w.held w.same nothing w.empty low c.args.self.now.lightest in
    let cs = but i (production m p).arguments in
    let ps : premises_of c.fellows.result ≡ cs = c.fellows.ensures ∙ ap (but i) args in
    let price : exact c.in_ok-take.field-0 ≡ A.taken (production m p).weight = c.in_ok-take.ensures.1 ∙ ap A.taken (c.weight.ensures ∙ ap (λ (q : ProductionModel). q.weight) c.production_at-production.ensures) in
    let known = but_each (λ x. x < categories m) (production m p).arguments i f.arguments_known in
    subst (ChainRule A exact m c.args.k) (sym c.from_residual-in_err-weigh.ensures) (λ ws argument fellows away.
    let s = lightest_settled w.lawful exact m formed c.args.self.now.accepted.accepted nothing w.same w.empty low right cs ws known fellows in
    let heavy = c.in_err-weigh.ensures (subst (AllSettled A exact nothing low) (sym ps) s.0) in
    let total : A.plus (exact c.in_ok-take.field-0) (worth A exact nothing low (premises_of c.fellows.result)) ≡ A.plus (A.taken (production m p).weight) (together A ws) =
    (λ j. A.plus (price j) ((ap (worth A exact nothing low) ps ∙ s.1) j)) in
    subst (A.lt A.ceiling) total heavy)

pub returns : goal.returns
returns g c =
    let m = model c.args.self.now.accepted.grammar.now in
    let p = c.args.k / 3 in
    let i = c.args.k % 3 in
    let inside : p < length m.productions = omega (arith, c.requires) in
    let args : c.arguments-arguments.result.now ≡ (production m p).arguments = c.arguments-arguments.ensures ∙ ap (λ (q : ProductionModel). q.arguments) c.production_at-production.ensures in
    let formed = formed_is m c.args.self.now.accepted.grammar.now.well_formed in
    let A = g.W.Weight.algebra in
    let w = g.met.W.Weight in
    let exact = g.W.Weight.exact in
    let nothing = g.W.Weight.nothing in
    let f = production_formed w.lawful exact m formed p inside in
    let low = c.args.self.now.low.now in
    let right = row_told w.lawful exact (Coded-set g.row.W.coded) m formed w.held w.same nothing w.empty low c.args.self.now.lightest in
    let cs = but i (production m p).arguments in
    let ps : premises_of c.fellows.result ≡ cs = c.fellows.ensures ∙ ap (but i) args in
    let price : exact c.in_ok-take.field-0 ≡ A.taken (production m p).weight = c.in_ok-take.ensures.1 ∙ ap A.taken (c.weight.ensures ∙ ap (λ (q : ProductionModel). q.weight) c.production_at-production.ensures) in
    let known = but_each (λ x. x < categories m) (production m p).arguments i f.arguments_known in
    let weighed = c.in_ok-weigh.ensures in
    let s = settled_lightest w.lawful exact m formed c.args.self.now.accepted.accepted nothing w.same w.empty low right cs known (subst (AllSettled A exact nothing low) ps weighed.0) in
    let result : c.from-result.result ≡ get_or (production m p).arguments i 0 = c.from-result.ensures ∙ c.in_ok-get.ensures.lookup.4 (omega arith) 0 ∙ ap (λ (xs : List ℕ). get_or xs i 0) args in
    let from : c.from.result ≡ (production m p).category = c.from.ensures ∙ c.category.ensures ∙ ap (λ (q : ProductionModel). q.category) c.production_at-production.ensures in
    let start : c.from-start.result ≡ m.start = c.from-start.ensures ∙ c.start.ensures in
    record {
      known = inside;
      argument = omega (arith, ap length args, c.in_ok-get.ensures.lookup.3.0);
      weights = s.0;
      fellows = s.1;
      away = λ z. c.if-result-start.false (result ∙ z ∙ sym start);
      result = result;
      premises = c.way.ensures ∙ (λ j. cond (eqb (from j) (start j)) [] (from j ∷ []));
      price = weighed.1 ∙ (λ j. A.plus (price j) ((ap (worth A exact nothing low) ps ∙ s.2) j));
    }
