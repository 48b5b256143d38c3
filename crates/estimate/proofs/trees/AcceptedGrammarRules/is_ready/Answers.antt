use Rattle.std.proofs.Common.{◌≡◌, ℕ, ◌<◌, List, length, sym, ap, ◌∙◌, subst}
use Rattle.grammar.specs.Formed.{Each}
use Rattle.grammar.specs.Grammars.{ProductionModel, production}
use Rattle.grammar.specs.Model.{model}
use Rattle.grammar.proofs.Formed.{formed_is}
use Rattle.estimate.specs.TreeRulesLemmas.{production_formed}
use Rattle.estimate.proofs.trees.AcceptedGrammarRules.is_ready.Goals as goal

pub all_settled-requires : goal.all_settled-requires
all_settled-requires g c =
    let m = model c.args.self.now.grammar.now in
    let p = c.args.k in
    let args : c.arguments.result.now ≡ (production m p).arguments = c.arguments.ensures ∙ ap (λ (q : ProductionModel). q.arguments) c.production_at-production.ensures in
    let f = production_formed g.met.W.Weight.lawful g.W.Weight.exact m (formed_is m c.args.self.now.grammar.now.well_formed) p c.requires.number in
    subst (λ (n : ℕ). Each (λ x. x < n) c.arguments.result.now) (sym c.requires.row) (subst (Each (λ x. x < length m.dimensions)) (sym args) f.arguments_known)
