use Rattle.estimate.specs.Weighing.{categories}
use Rattle.grammar.specs.Model.{model}
use Rattle.estimate.specs.Raises.{raised_twice}
use Rattle.estimate.proofs.estimate.LargerEstimate.raise.Goals as goal

pub returns-clause-raised : goal.returns-clause-raised
returns-clause-raised g c =
    let m = model c.args.weighed.now.accepted.grammar.now in
    raised_twice g.met.W.Weight.lawful g.W.Weight.exact (categories m) (g.A.Estimate.own m) (g.B.Estimate.own m) c.args.row.now c.raise.new.row c.raise-2.new.row c.raise.ensures.raised c.raise-2.ensures.raised
