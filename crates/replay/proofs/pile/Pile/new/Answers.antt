use Rattle.std.proofs.Common.{replicate, arith}
use Rattle.std.proofs.lemmas.List.{length-replicate, drop_all}
use Rattle.replay.proofs.pile.Pile.new.Goals as goal

pub invariant_of-result : goal.invariant_of-result
invariant_of-result g c = record { long = length-replicate g.row.N c.args.fill; most = omega arith }

pub returns : goal.returns
returns g c = drop_all g.row.N (replicate g.row.N c.args.fill) (omega (arith, length-replicate g.row.N c.args.fill))
