use Rattle.std.proofs.Common.{◌≡◌, ◌++◌, drop}
use Rattle.replay.specs.Piles.{items}
use Rattle.replay.proofs.stack.putting.push_all.Given as goal

-- what has been put on is the end of xs
abbrev pub invariant-loop-i : goal.invariant-loop-i
invariant-loop-i l = items l.tokens ≡ drop l.i l.xs ++ items l.initial.tokens
