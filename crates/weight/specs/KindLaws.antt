-- Sums and odds keep the laws of weights. Assumes nothing.
use Rattle.std.proofs.Common.{mul-lt-mul_of_pos_right, mul_comm, mul_assoc, one-mul, arith, rules}
use Rattle.weight.specs.Algebra.{Lawful}
use Rattle.weight.specs.Sums.{sums}
use Rattle.weight.specs.Odds.{odds, same_number}

pub odds_lawful : Lawful odds
odds_lawful = record {
  irrefl = λ a h. omega arith;
  trans = λ a b c g h. omega arith;
  lowest = λ a h. omega arith;
  identity = λ a. same_number (one-mul a.number);
  assoc = λ a b c. same_number (mul_assoc a.number b.number c.number);
  comm = λ a b. same_number (mul_comm a.number b.number);
  rises = λ a b c h. mul-lt-mul_of_pos_right h c.positive;
  closed = λ a b g h l. omega (arith, g, h);
  written = omega arith;
  above = λ n h g. omega arith;
  fits = λ n h g l. omega arith;
  heavier = λ m n h g l. omega arith;
  shows = λ a h. omega (arith, h);
  rising = λ a b h g. h;
}

pub sums_lawful : Lawful sums
sums_lawful = search rules
