use Rattle.deduction.specs.Theorems.{system, In}
use Rattle.deduction.proofs.Turns.{step}
use Rattle.deduction.proofs.search.steps_stands.Goals as goal

pub returns : goal.returns
returns g c =
    λ R e fair S Q S' Q' xs s x. step g.met.W.Weight.lawful (system R) e fair.priced fair.consistent (In S) (In Q) (In S') (In Q') xs s x
