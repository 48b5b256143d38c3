-- One turn is one call more.
use Rattle.std.proofs.Common.{refl, rules}
use Rattle.line.specs.Runs.{reply}
use Rattle.line.proofs.Spelled.{spelled_more, sofar_more}
use Rattle.line.proofs.run.run_calls.Goals as goal

pub loop-call-preserved : goal.loop-call-preserved
loop-call-preserved c =
    sofar_more _ _ _ _ _ _ _ _ _ _ (reply c.perform-next.result.1) c.loop-call.invariant (spelled_more _ _ _ _ c.loop-call-test.true refl)
    c.perform-next.ensures.answer (c.perform-next.ensures.law _ c.loop-call.invariant.held) (search rules) (search rules)
