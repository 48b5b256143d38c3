use Rattle.std.proofs.lemmas.List.{take_rest}
use Rattle.replay.proofs.pile.Pile.items.Goals as goal

pub returns : goal.returns
returns g c = take_rest c.args.self.now.cells c.args.self.now.top
