-- How numbers stand for the exact weights of sums and of odds. Assumes nothing.
use Rattle.std.proofs.Common.{arith, refl}
use Rattle.weight.specs.Numbers.{Numbers}
use Rattle.weight.specs.Sums.{sums, most_sum}
use Rattle.weight.specs.Odds.{odds, most_odds, same_number}
use Rattle.weight.specs.KindLaws.{sums_lawful, odds_lawful}

-- A number of sums is itself the exact weight.
abbrev pub sum_numbers : Numbers sums 0 most_sum
sum_numbers = record {
  lawful = sums_lawful;
  weight = λ n h. n;
  shows = λ n h. refl;
  once = λ a b e. e;
  from = λ a. omega arith;
  rises = λ a b h. h;
  none = refl;
  ceiling = refl;
  taken = λ n h. refl;
}

-- A number of odds stands for the positive number that it is.
abbrev pub odds_numbers : Numbers odds 1 most_odds
odds_numbers = record {
  lawful = odds_lawful;
  weight = λ n h. record { number = n; positive = h };
  shows = λ n h. refl;
  once = λ a b e. same_number e;
  from = λ a. a.positive;
  rises = λ a b h. h;
  none = refl;
  ceiling = refl;
  taken = λ n h. omega (arith, h);
}
