use Rattle.std.proofs.Common.{Some, take}
use Rattle.estimate.specs.Searches.{Weighed}
use Rattle.estimate.proofs.search.weigh.Given as goal

abbrev pub invariant-loop-x : goal.invariant-loop-x
invariant-loop-x g l =
    Weighed g.W.Weight.algebra g.W.Weight.exact g.W.Weight.nothing l.row (g.W.Weight.exact l.rule.price) (take l.x-index l.rule.premises.items) (Some l.cost)
