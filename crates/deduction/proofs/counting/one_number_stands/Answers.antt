use Rattle.deduction.specs.Counts.{Such}
use Rattle.deduction.proofs.Numbers.{one_number}
use Rattle.deduction.proofs.counting.one_number_stands.Goals as goal

pub returns : goal.returns
returns c = λ p m n. one_number (Such p) m n
