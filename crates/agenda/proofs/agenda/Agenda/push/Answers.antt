use Rattle.std.proofs.Common.{◌≡◌, ◌+◌, drop, ap, ◌∙◌, rules}
use Rattle.agenda.specs.Cells.{held}
use Rattle.agenda.specs.Agendas.{Bounded, Pushed}
use Rattle.agenda.specs.Tables.{listed}
use Rattle.agenda.proofs.Members.{pushed, beyond_pushed}
use Rattle.agenda.proofs.Tables.{turned}
use Rattle.agenda.proofs.agenda.Agenda.push.Goals as goal

pub returns-clause-pushed : goal.returns-clause-pushed
returns-clause-pushed g c =
    let a = c.args.self.now in
    let t = c.new-table.result in
    let u = c.push.new.self in
    let told = c.push.ensures in
    turned (λ x n y m. Pushed c.args.e (held x n) (held y m)) a.cells.now a.len _ (a.len + 1)
    c.new-table.ensures.cells c.new-table.ensures.len (search rules) (told.len ∙ ap (λ k. k + 1) c.new-table.ensures.len) (pushed c.args.e (listed t) (listed u) told.adds)

pub returns-clause-untouched : goal.returns-clause-untouched
returns-clause-untouched g c n =
    let a = c.args.self.now in
    let t = c.new-table.result in
    let u = c.push.new.self in
    let told = c.push.ensures in
    turned (λ x k y m. Bounded g.E.Slotted.index (held y m) n → drop n y ≡ drop n x) a.cells.now a.len _ (a.len + 1)
    c.new-table.ensures.cells c.new-table.ensures.len (search rules) (told.len ∙ ap (λ k. k + 1) c.new-table.ensures.len)
    (beyond_pushed g.E.Slotted.index t.cells.now u.cells.now t.len u.len n c.args.e told.lies.room told.adds u.placed told.lies.untouched)
