use Rattle.std.proofs.Common.{arith}
use Rattle.std.proofs.lemmas.List.{length-drop}
use Rattle.replay.proofs.pile.Pile.room.Goals as goal

pub returns : goal.returns
returns g c = omega (arith, length-drop c.args.self.now.top c.args.self.now.cells)
