use Rattle.std.proofs.Common.{take}
use Rattle.line.specs.Runs.{spelled}
use Rattle.line.proofs.Spelled.{Sofar}
use Rattle.line.proofs.run.run_calls.Given as goal

-- all stands as the calls so far have it
abbrev pub invariant-loop-call : goal.invariant-loop-call
invariant-loop-call l = Sofar (spelled (take l.call-index l.calls)) l.call-index l.held l.stopped l.unmade
