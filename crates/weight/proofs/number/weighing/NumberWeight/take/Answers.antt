use Rattle.std.proofs.Common.{arith}
use Rattle.weight.specs.Numbers.{taken_within}
use Rattle.weight.proofs.number.weighing.NumberWeight.take.Goals as goal

pub of-requires : goal.of-requires
of-requires g c =
    let least = g.met.J.Joining.least in
    rw c.from.ensures
    (taken_within g.J.Joining.numbers c.args.n (omega (arith, least, c.LEAST.ensures, c.if-n-LEAST.false)) (omega (arith, c.ranges.n.fits)))
