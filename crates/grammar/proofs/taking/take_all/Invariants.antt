use Rattle.std.proofs.Common.{◌≡◌, ◌-◌, ◌≤◌, length}
use Rattle.grammar.specs.Loaders.{draft_of}
use Rattle.grammar.specs.Loads.{run, load_of}
use Rattle.grammar.proofs.taking.take_all.Given as goal

-- what is left, from here, gives what the whole gives
abbrev pub invariant-loop-command : goal.invariant-loop-command
invariant-loop-command l =
    (length l.rest ≤ length l.pack)
    × (load_of l.pack ≡ run (length l.rest) (length l.pack - length l.rest) l.loader.stage (draft_of l.loader) l.rest)

abbrev pub decreases-loop-command : goal.decreases-loop-command
decreases-loop-command l = length l.rest
