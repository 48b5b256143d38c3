use Rattle.std.proofs.Common.{◌≡◌}
use Rattle.agenda.specs.Agendas.{room, entries}
use Rattle.estimate.specs.Searches.{AllOffered}
use Rattle.estimate.proofs.search.offer_all.Given as goal

abbrev pub invariant-loop-k : goal.invariant-loop-k
invariant-loop-k g l =
    (room l.agenda ≡ room l.initial.agenda)
    × AllOffered g.W.Weight.algebra g.W.Weight.exact g.W.Weight.nothing (g.R.Rules.count l.rules) (g.R.Rules.gives l.rules) l.row (entries l.initial.agenda) l.k (entries l.agenda)
