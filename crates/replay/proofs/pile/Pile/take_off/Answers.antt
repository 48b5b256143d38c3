use Rattle.std.proofs.Common.{sym, arith}
use Rattle.std.proofs.lemmas.List.{length-drop, drop-drop}
use Rattle.replay.proofs.pile.Pile.take_off.Goals as goal

pub overflow_add-self : goal.overflow_add-self
overflow_add-self g c = omega (arith, length-drop c.args.self.now.top c.args.self.now.cells, c.requires)

pub invariant_of-self : goal.invariant_of-self
invariant_of-self g c = record {
  long = c.args.self.now.long;
  most = omega (arith, length-drop c.args.self.now.top c.args.self.now.cells, c.requires);
}

pub returns : goal.returns
returns g c = sym (drop-drop c.args.n c.args.self.now.top c.args.self.now.cells)
