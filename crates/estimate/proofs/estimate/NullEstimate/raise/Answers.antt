use Rattle.estimate.specs.Weighing.{categories}
use Rattle.grammar.specs.Model.{model}
use Rattle.estimate.specs.Raises.{raised_not}
use Rattle.estimate.proofs.estimate.NullEstimate.raise.Goals as goal

pub returns-clause-raised : goal.returns-clause-raised
returns-clause-raised g c = raised_not g.met.W.Weight.lawful g.W.Weight.exact (categories (model c.args.weighed.now.accepted.grammar.now)) g.W.Weight.nothing g.met.W.Weight.empty c.args.row.now
