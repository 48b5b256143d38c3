use Rattle.std.proofs.Common.{◌≤◌, replicate, ap, ◌∙◌, arith}
use Rattle.std.proofs.lemmas.List.{take-replicate}
use Rattle.grammar.specs.Model.{model}
use Rattle.grammar.proofs.Formed.{formed_is}
use Rattle.estimate.specs.Weighing.{categories}
use Rattle.estimate_cases.proofs.weighing.Weights.fill.Goals as goal

pub raise-requires-clause-spare : goal.raise-requires-clause-spare
raise-requires-clause-spare g c =
    let grammar = c.new-weighed.result.accepted.grammar.now in
    let n = categories (model grammar) in
    let none = c.none-spare.result in
    let most : n ≤ 32 = (formed_is (model grammar) grammar.well_formed).categories_most in
    take-replicate n 32 none (omega (arith, most)) ∙ ap (replicate n) c.none-spare.ensures
