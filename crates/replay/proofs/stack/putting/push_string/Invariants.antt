use Rattle.std.proofs.Common.{◌≡◌, ◌++◌, drop}
use Rattle.grammar.specs.Trees.{spell}
use Rattle.replay.specs.Piles.{items}
use Rattle.replay.specs.Replays.{strings_on}
use Rattle.replay.specs.Shapes.{laid_out}
use Rattle.replay.proofs.stack.putting.push_string.Given as goal

-- what has been put on is what the last symbols give
abbrev pub invariant-loop-i : goal.invariant-loop-i
invariant-loop-i l = items l.tokens ≡ spell (strings_on (laid_out l.shapes l.lent)) (drop l.i l.symbols) ++ items l.initial.tokens
