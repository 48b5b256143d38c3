use Rattle.deduction.specs.Counts.{Such}
use Rattle.deduction.proofs.Numbers.{exceeds_above, above_exceeds}
use Rattle.deduction.proofs.counting.exceeding_stands.Goals as goal

pub returns : goal.returns
returns c = record { above = λ p b n number more. exceeds_above (Such p) b n more number; exceeds = λ p b n. above_exceeds (Such p) b n }
