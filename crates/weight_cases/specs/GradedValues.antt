-- The exact weight of a graded pair, and the pair that holds none. Assumes nothing.
use Rattle.std.specs.Prelude.{◌-◌}
use Rattle.std.proofs.Common.{arith}
use Rattle.weight_cases.specs.Grades.{Grade}
use Rattle.weight_cases.specs.declared.graded.Graded.{Graded}

abbrev pub grade_of : Graded → Grade
grade_of w = record { first = w.first; second = w.sum - w.first }

abbrev pub no_grade : Graded
no_grade = record { sum = 0; first = 0; part = omega arith; within = omega arith }
