use Rattle.std.proofs.Common.{◌<◌}
use Rattle.std.specs.List.Sorted.{IsPermutation}
use Rattle.agenda.specs.Orders.{before, Up}
use Rattle.agenda.specs.Tables.{listed, Stays}
use Rattle.agenda.proofs.table.Table.sift_up.Given as goal

abbrev pub invariant-loop-at : goal.invariant-loop-at
invariant-loop-at g l =
    (l.«at» < l.self.len) × IsPermutation (listed l.initial.self) (listed l.self)
    × (Up (before g.E.Ord.cmp) (listed l.initial.self) l.initial.«at» → Up (before g.E.Ord.cmp) (listed l.self) l.«at») × Stays l.initial.self l.self

abbrev pub decreases-loop-at : goal.decreases-loop-at
decreases-loop-at g l = l.«at»
