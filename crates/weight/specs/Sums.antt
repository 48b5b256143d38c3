-- The exact weights of sums: all numbers, which add. Assumes nothing.
use Rattle.std.specs.Prelude.{ℕ, ◌+◌, ◌<◌}
use Rattle.std.proofs.lemmas.Bool.{cases_order}
use Rattle.weight.specs.Algebra.{Algebra}

-- The ceiling of sums.
abbrev pub most_sum : ℕ
most_sum = 1000000000

-- Numbers from 0 on, under addition.
abbrev pub sums : Algebra
sums = record {
  Exact = ℕ;
  lt = λ a b. a < b;
  order = cases_order;
  none = 0;
  plus = λ a b. a + b;
  ceiling = most_sum;
  kind = 0;
  least = 1;
  taken = λ n. n;
  shown = λ e. e;
}
