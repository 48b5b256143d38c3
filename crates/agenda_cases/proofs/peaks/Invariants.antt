use Rattle.std.specs.Prelude.{⊤}
use Rattle.agenda.specs.Agendas.{count}
use Rattle.agenda_cases.proofs.peaks.Given as goal

abbrev pub invariant-loop-height : goal.invariant-loop-height
invariant-loop-height l = ⊤

abbrev pub decreases-loop-height : goal.decreases-loop-height
decreases-loop-height l = count l.a
