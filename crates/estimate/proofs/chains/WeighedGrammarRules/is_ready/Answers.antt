use Rattle.std.proofs.Common.{◌≡◌, ℕ, ◌/◌, ◌%◌, ◌<◌, List, length, get_or, sym, ap, ◌∙◌, subst, arith}
use Rattle.grammar.specs.Grammars.{ProductionModel, production}
use Rattle.grammar.specs.Model.{model}
use Rattle.grammar.proofs.Formed.{formed_is}
use Rattle.grammar.proofs.Each.{each_at}
use Rattle.estimate.specs.Weighing.{categories}
use Rattle.estimate.specs.TreeRulesLemmas.{production_formed}
use Rattle.estimate.proofs.chains.WeighedGrammarRules.is_ready.Goals as goal

pub settled-requires : goal.settled-requires
settled-requires g c =
    let m = model c.args.self.now.accepted.grammar.now in
    let p = c.args.k / 3 in
    let i = c.args.k % 3 in
    let inside : p < length m.productions = omega (arith, c.requires.number) in
    let args : c.arguments.result.now ≡ (production m p).arguments = c.arguments.ensures ∙ ap (λ (q : ProductionModel). q.arguments) c.production_at-production.ensures in
    let f = production_formed g.met.W.Weight.lawful g.W.Weight.exact m (formed_is m c.args.self.now.accepted.grammar.now.well_formed) p inside in
    let argument : i < length (production m p).arguments = omega (arith, ap length args, c.in-Some.ensures.lookup.3.0) in
    let from : c.from.result ≡ get_or (production m p).arguments i 0 = c.from.ensures ∙ c.in-Some.ensures.lookup.4 (omega arith) 0 ∙ ap (λ (xs : List ℕ). get_or xs i 0) args in
    let known : get_or (production m p).arguments i 0 < categories m = each_at (λ x. x < categories m) (production m p).arguments i 0 f.arguments_known argument in
    omega (arith, from, known, c.requires.row)
