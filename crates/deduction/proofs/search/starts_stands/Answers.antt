use Rattle.deduction.specs.Theorems.{system, In}
use Rattle.deduction.proofs.Turns.{begin}
use Rattle.deduction.proofs.search.starts_stands.Goals as goal

pub returns : goal.returns
returns g c =
    λ R e S Q. begin (system R) e (In S) (In Q)
