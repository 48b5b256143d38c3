use Rattle.deduction.specs.Theorems.{system}
use Rattle.deduction.proofs.Derivations.{no_worse_total}
use Rattle.deduction.proofs.search.total_stands.Goals as goal

pub returns : goal.returns
returns g c =
    λ R lab. no_worse_total g.met.W.Weight.lawful (system R) lab
