use Rattle.deduction.specs.Counts.{Such}
use Rattle.deduction.proofs.Numbers.{rising_number}
use Rattle.deduction.proofs.counting.rising_number_stands.Goals as goal

pub returns : goal.returns
returns c = λ p q m n. rising_number (Such p) (Such q) m n
