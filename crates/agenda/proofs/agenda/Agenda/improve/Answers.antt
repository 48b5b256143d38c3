use Rattle.std.proofs.Common.{◌≡◌, ◌≤◌, true, false, length, get_or, drop, sym, refl, ap, ◌∙◌, rules}
use Rattle.agenda.specs.Orders.{before, Heap}
use Rattle.agenda.specs.Places.{Placed, Present}
use Rattle.agenda.specs.Cells.{held, slots_of}
use Rattle.agenda.specs.Agendas.{Bounded, Replaced, entries}
use Rattle.agenda.specs.Tables.{listed}
use Rattle.agenda.proofs.Members.{improves, replaced, beyond_held}
use Rattle.agenda.proofs.Moves as moves
use Rattle.agenda.proofs.Ranks.{less}
use Rattle.agenda.proofs.Tables.{turned}
use Rattle.agenda.proofs.agenda.Agenda.improve.Goals as goal

pub invariant_of-self : goal.invariant_of-self
invariant_of-self g c =
    let a = c.args.self.now in
    let u = c.lower.new.self in
    let told = c.lower.ensures in
    let lt = before g.E.Ord.cmp in
    let len = told.stays.len ∙ c.new-table.ensures.len in
    record {
      within = turned (λ x n y m. m ≤ length y) a.cells.now a.len _ a.len c.new-table.ensures.cells c.new-table.ensures.len (search rules) len u.within;
      heap = turned (λ x n y m. Heap lt (held x n) → Heap lt (held y m)) a.cells.now a.len _ a.len c.new-table.ensures.cells c.new-table.ensures.len (search rules) len told.heap a.heap;
      placed = turned (λ x n y m. Placed g.E.Slotted.index (held y m) (slots_of y)) a.cells.now a.len _ a.len c.new-table.ensures.cells c.new-table.ensures.len (search rules) len u.placed;
    }

pub returns-then-lt-clause-improves : goal.returns-then-lt-clause-improves
returns-then-lt-clause-improves g c =
    let lt = before g.E.Ord.cmp in
    let ix = g.E.Slotted.index in
    let a = c.args.self.now in
    let e = c.args.e in
    let p = c.in-Some.p in
    let t = c.new-table.result in
    let u = c.lower.new.self in
    let told = c.lower.ensures in
    let at = c.in-Some.ensures in
    turned (λ x n y m. Placed ix (held x n) (slots_of x) → Present ix (held x n) (ix e) p → lt e (get_or (held x n) p e) ≡ true → Replaced lt ix e (held x n) (held y m)) a.cells.now a.len _ a.len
    c.new-table.ensures.cells c.new-table.ensures.len (search rules) (told.stays.len ∙ c.new-table.ensures.len)
    (λ h here earlier. replaced ix lt e (listed t) (listed u) (slots_of t.cells.now) p h here earlier told.shuffled)
    a.placed (at.0, λ d. at.1 d ∙ c.slot_index.ensures) (ap (lt e) (sym (c.entry.ensures e)) ∙ sym (less g.met.E.Ord.matches_partial_cmp e c.entry.result) ∙ sym c.if-lt.ensures)

pub returns-then-lt-clause-untouched : goal.returns-then-lt-clause-untouched
returns-then-lt-clause-untouched g c n =
    let a = c.args.self.now in
    let t = c.new-table.result in
    let u = c.lower.new.self in
    let told = c.lower.ensures in
    turned (λ x k y m. Bounded g.E.Slotted.index (held x k) n → drop n y ≡ drop n x) a.cells.now a.len _ a.len
    c.new-table.ensures.cells c.new-table.ensures.len (search rules) (told.stays.len ∙ c.new-table.ensures.len)
    (beyond_held g.E.Slotted.index t.cells.now u.cells.now t.len n told.stays.lies.room t.placed told.stays.lies.untouched)

pub returns-else-lt-clause-improves : goal.returns-else-lt-clause-improves
returns-else-lt-clause-improves g c =
    let lt = before g.E.Ord.cmp in
    let ix = g.E.Slotted.index in
    let a = c.args.self.now in
    let e = c.args.e in
    let p = c.in-Some.p in
    let xs = entries a in
    let here = c.in-Some.ensures in
    improves ix lt e xs xs (slots_of a.cells.now) false a.placed (
      refl,
      λ q d l same.
          let z : q ≡ p = moves.apart (λ i. ix (get_or xs i d)) (slots_of a.cells.now) (length xs) (a.placed d) q p l here.0 (same ∙ sym c.slot_index.ensures ∙ sym (here.1 d)) in
          ap (λ j. lt e (get_or xs j d)) z ∙ ap (lt e) (sym (c.entry.ensures d)) ∙ sym (less g.met.E.Ord.matches_partial_cmp e c.entry.result) ∙ sym c.if-lt.ensures,
    )
