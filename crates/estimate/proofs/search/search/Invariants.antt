use Rattle.std.proofs.Common.{◌≡◌, length}
use Rattle.agenda.specs.Agendas.{room, entries}
use Rattle.estimate.specs.Rules.{system}
use Rattle.estimate.specs.Searches.{Searching, Closed, opens}
use Rattle.estimate.proofs.search.search.Given as goal

abbrev pub invariant-loop-e : goal.invariant-loop-e
invariant-loop-e g l =
    let A = g.W.Weight.algebra in
    let exact = g.W.Weight.exact in
    let nothing = g.W.Weight.nothing in
    let n = g.R.Rules.count l.rules in
    let gives = g.R.Rules.gives l.rules in
    (room l.agenda ≡ g.R.Rules.items l.rules) × (length l.row ≡ g.R.Rules.items l.rules)
    × Searching A exact nothing (system A exact n gives) l.row (entries l.agenda) × Closed A exact nothing n gives n l.row (entries l.agenda)

abbrev pub decreases-loop-e : goal.decreases-loop-e
decreases-loop-e g l = opens g.W.Weight.algebra g.W.Weight.exact l.row
