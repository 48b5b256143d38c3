use Rattle.deduction.specs.Theorems.{system, In}
use Rattle.deduction.proofs.Frontier.{frontier}
use Rattle.deduction.proofs.search.frontier_stands.Goals as goal

pub returns : goal.returns
returns g c =
    λ R e fair S Q xs at. frontier g.met.W.Weight.lawful (system R) e fair.priced fair.consistent (In S) (In Q) xs at
