use Rattle.std.proofs.Common.{◌≡◌, ◌-◌, drop, rules, arith}
use Rattle.agenda.specs.Orders.{before, Heap}
use Rattle.agenda.specs.Cells.{held}
use Rattle.agenda.specs.Agendas.{Bounded, Taken}
use Rattle.agenda.specs.Tables.{listed}
use Rattle.agenda.proofs.Members.{taken, beyond_held}
use Rattle.agenda.proofs.Tables.{turned}
use Rattle.agenda.proofs.agenda.Agenda.pop.Goals as goal

pub returns-clause-popped : goal.returns-clause-popped
returns-clause-popped g c =
    let lt = before g.E.Ord.cmp in
    let ix = g.E.Slotted.index in
    let a = c.args.self.now in
    let t = c.new-table.result in
    let u = c.pop-first.new.self in
    let told = c.pop-first.ensures in
    let same = c.new-table.ensures.len in
    turned (λ x n y m. Heap lt (held x n) → Taken lt ix c.pop-first.result (held x n) (held y m)) a.cells.now a.len _ (a.len - 1)
    c.new-table.ensures.cells same (search rules) (omega (arith, told.len)) (λ h. taken ix lt c.pop-first.result (listed t) (listed u) told.takes (told.first h) told.free) a.heap

pub returns-clause-untouched : goal.returns-clause-untouched
returns-clause-untouched g c n =
    let a = c.args.self.now in
    let t = c.new-table.result in
    let u = c.pop-first.new.self in
    let told = c.pop-first.ensures in
    let same = c.new-table.ensures.len in
    turned (λ x k y m. Bounded g.E.Slotted.index (held x k) n → drop n y ≡ drop n x) a.cells.now a.len _ (a.len - 1) {m' = u.len}
    c.new-table.ensures.cells same (search rules) (omega (arith, told.len)) (beyond_held g.E.Slotted.index t.cells.now u.cells.now t.len n told.lies.room t.placed told.lies.untouched)
