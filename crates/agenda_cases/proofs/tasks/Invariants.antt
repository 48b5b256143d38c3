use Rattle.std.specs.Prelude.{⊤}
use Rattle.agenda.specs.Agendas.{count}
use Rattle.agenda_cases.proofs.tasks.Given as goal

abbrev pub invariant-loop-cost : goal.invariant-loop-cost
invariant-loop-cost l = ⊤

abbrev pub decreases-loop-cost : goal.decreases-loop-cost
decreases-loop-cost l = count l.a
