use Rattle.std.proofs.Common.{◌∙◌}
use Rattle.agenda.specs.Cells.{slots_of}
use Rattle.agenda.specs.Orders.{before}
use Rattle.agenda.specs.Agendas.{Offered, entries}
use Rattle.agenda.proofs.Offers.{by_improve, by_push, bounded_before}
use Rattle.agenda.proofs.Ranks.{ordered}
use Rattle.agenda.proofs.agenda.Agenda.offer.Goals as goal

pub returns-then-has : goal.returns-then-has
returns-then-has g c =
    let ix = g.E.Slotted.index in
    let lt = before g.E.Ord.cmp in
    let order = ordered g.met.E.Ord.total g.met.E.Slotted.alike in
    let a = c.args.self.now in
    let was = c.if-has.ensures in
    let told = c.improve.ensures in
    let done : Offered lt ix c.args.e (entries a) (entries c.improve.new.self) = by_improve lt order ix c.args.e (entries a) (entries c.improve.new.self) (slots_of a.cells.now) a.placed c.improve.result
    (was.0, (was.1.0, was.1.1 ∙ c.slot_index.ensures)) told.improves in
    record { room = told.room; named = told.named; offered = done; untouched = λ n below. told.untouched n (bounded_before lt order ix c.args.e (entries a) (entries c.improve.new.self) done n below) }

pub returns-else-has-clause-offered : goal.returns-else-has-clause-offered
returns-else-has-clause-offered g c =
    by_push (before g.E.Ord.cmp) (ordered g.met.E.Ord.total g.met.E.Slotted.alike) g.E.Slotted.index c.args.e (entries c.args.self.now) (entries c.push.new.self) c.push.ensures.pushed
