use Rattle.std.proofs.Common.{◌≡◌, ◌%◌, ◌++◌, List, ℕ, length, Ok}
use Rattle.grammar.specs.Model.{model}
use Rattle.replay.specs.Replays.{run}
use Rattle.replay.specs.Stacks.{stack_of}
use Rattle.replay.proofs.replaying.run_all.Given as goal

-- the commands behind the rest have been run
abbrev pub invariant-loop-before : goal.invariant-loop-before
invariant-loop-before l = (length l.rest % 3 ≡ 0) × (later : List ℕ) × (l.commands ≡ l.rest ++ later) × (run (model l.grammar) (length l.rest) later ≡ Ok (stack_of l.stack))

abbrev pub decreases-loop-before : goal.decreases-loop-before
decreases-loop-before l = length l.rest
