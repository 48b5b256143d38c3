-- What cells hold. Assumes nothing.
--   entries_of cells, slots_of cells  the two parts of each cell
--   held cells n                      the entries of the first n cells
--   blank_cell entry                  the cell that blanking leaves
--   Put index e i cells after          e was put in the cell at i
--   Untouched index xs cells after    every cell that xs cannot concern is as it was
use Rattle.std.specs.Prelude.{◌≡◌, ℕ, ◌≤◌, List, map, length, take, ◌≢◌, slice_index_or, slice_set}
use Rattle.agenda.specs.Places.{Absent}
use Rattle.agenda.specs.declared.cells.Cell.{Cell}

module _ {X : Type 0} where
  abbrev pub entries_of : List (Cell X) → List X
  entries_of cells = map (λ c. c.entry) cells

  abbrev pub slots_of : List (Cell X) → List ℕ
  slots_of cells = map (λ c. c.slot) cells

  -- The entries of the first n cells.
  abbrev pub held : List (Cell X) → ℕ → List X
  held cells n = take n (entries_of cells)

  abbrev pub blank_cell : X → Cell X
  blank_cell entry = record { entry = entry; slot = 0 }

  -- A cell past as many as xs has, whose place is the index of none of xs, is as it was.
  abbrev pub Untouched : (X → ℕ) → List X → List (Cell X) → List (Cell X) → Type 0
  Untouched index xs cells after =
      (k : ℕ) (d : Cell X) → length xs ≤ k → Absent index xs k → slice_index_or after k d ≡ slice_index_or cells k d

-- e was put in the cell at i, the slot of its index says so, and every other cell is as it was.
pub record Put {X : Type 0} (index : X → ℕ) (e : X) (i : ℕ) (cells after : List (Cell X)) : Type 0 where
  pub entries : entries_of after ≡ slice_set (entries_of cells) i e
  pub slots : slots_of after ≡ slice_set (slots_of cells) (index e) i
  pub elsewhere : (k : ℕ) (d : Cell X) → (k ≢ i) → (k ≢ index e) → slice_index_or after k d ≡ slice_index_or cells k d
