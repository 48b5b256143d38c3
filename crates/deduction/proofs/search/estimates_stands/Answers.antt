use Rattle.deduction.specs.Theorems.{system}
use Rattle.deduction.proofs.Estimates.{consistent_none, consistent_by}
use Rattle.deduction.proofs.search.estimates_stands.Goals as goal

pub returns : goal.returns
returns g c =
    let laws = g.met.W.Weight.lawful in
    record { none = λ R. consistent_none laws (system R); by_floor = λ R e low floor. consistent_by laws (system R) e low floor }
