use Rattle.std.proofs.Common.{◌≡◌, take}
use Rattle.estimate.proofs.trees.premises.Given as goal

abbrev pub invariant-loop-a : goal.invariant-loop-a
invariant-loop-a l = l.premises.items ≡ take l.a-index l.arguments
