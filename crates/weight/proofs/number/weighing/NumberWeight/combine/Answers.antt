use Rattle.std.proofs.Common.{arith}
use Rattle.weight.specs.Numbers.{over, low_shown}
use Rattle.weight.proofs.number.weighing.NumberWeight.combine.Goals as goal

pub returns-then-value-from : goal.returns-then-value-from
returns-then-value-from g c =
    over g.J.Joining.numbers _ _ (c.join-value.ensures c.args.self.least c.args.other.least) (omega (arith, c.CEILING.ensures, c.from.ensures, c.if-value-from.true))

pub of-requires : goal.of-requires
of-requires g c =
    let low = low_shown g.J.Joining.numbers _ _ (c.join-value.ensures c.args.self.least c.args.other.least) in
    (low, omega (arith, c.CEILING.ensures, c.from.ensures, c.if-value-from.false))
