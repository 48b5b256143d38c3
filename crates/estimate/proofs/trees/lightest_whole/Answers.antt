use Rattle.std.proofs.Common.{subst, arith}
use Rattle.std.proofs.lemmas.List.{get_or_default}
use Rattle.grammar.specs.Model.{model}
use Rattle.grammar.proofs.Formed.{formed_is}
use Rattle.estimate.specs.Weighing.{Light}
use Rattle.estimate.specs.TreeRules.{TreeRule}
use Rattle.estimate.specs.TreeRulesLemmas.{rule_of, light_row}
use Rattle.estimate.proofs.trees.lightest_whole.Goals as goal

pub returns-clause-lightest : goal.returns-clause-lightest
returns-clause-lightest g c =
    let m = model c.args.accepted.now.grammar.now in
    let w = g.met.W.Weight in
    let A = g.W.Weight.algebra in
    let exact = g.W.Weight.exact in
    let row = c.search.new.row in
    let formed = formed_is m c.args.accepted.now.grammar.now.well_formed in
    let all = light_row w.lawful exact m (TreeRule A exact m) (λ p r h k. k) (rule_of w.lawful exact m formed c.args.accepted.now.accepted w.held) w.within g.W.Weight.nothing w.empty row c.search.ensures.solved in
    λ x d h. subst (λ v. Light A m x (exact v)) (get_or_default row x g.W.Weight.nothing d (omega (arith, h, c.requires.row))) (all x h)
