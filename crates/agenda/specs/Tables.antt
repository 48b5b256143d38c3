-- What a table holds, and what a change to it leaves. Assumes nothing.
--   listed t                the entries held, in the order in which they lie
--   Lies xs old new         the table lies in the same slice, of which the cells that xs cannot concern are as they were
--   Stays old new           that, of its own entries, and it holds as many
use Rattle.std.specs.Prelude.{◌≡◌, List, length}
use Rattle.std.specs.declared.cmp.Ord as Ord
use Rattle.std.specs.declared.cmp.PartialEq as PartialEq
use Rattle.std.specs.declared.cmp.PartialOrd as PartialOrd
use Rattle.agenda.specs.declared.entry.Slotted as Slotted
use Rattle.agenda.specs.Cells.{held, Untouched}
use Rattle.agenda.specs.declared.table.Table.{Table}

module _ {X : Type 0} {slotted : Slotted.Ghosts X} {ord : Ord.Ghosts X} {eq : PartialEq.Ghosts X} {partial : PartialOrd.Ghosts X} where
  abbrev pub listed : Table X slotted ord eq partial → List X
  listed t = held t.cells.now t.len

  -- The table lies in the same slice, of which every cell that xs cannot concern is as it was.
  pub record Lies (xs : List X) (old new : Table X slotted ord eq partial) : Type 0 where
    pub named : new.cells.ghost_name ≡ old.cells.ghost_name
    pub room : length new.cells.now ≡ length old.cells.now
    pub untouched : Untouched slotted.index xs old.cells.now new.cells.now

  -- The table lies where it lay, and holds as many entries.
  pub record Stays (old new : Table X slotted ord eq partial) : Type 0 where
    pub len : new.len ≡ old.len
    pub lies : Lies (listed old) old new
