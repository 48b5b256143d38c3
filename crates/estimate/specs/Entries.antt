-- The entries of the category agenda: a category with a cost, the cheapest first, and of those the one with the lowest number. Assumes nothing.
--   cheaper A exact x y    the entry x comes before y
--   place x                the category of an entry
--   blank_entry nothing    the entry that blank cells hold
--   BlankRow, BlankCells   the first n entries of a row, of the agenda's cells, are blank
use Rattle.std.specs.Prelude.{◌≡◌, ℕ, Bool, true, false, List, take, replicate, nat_lt}
use Rattle.std.proofs.Common.{inl, inr}
use Rattle.weight.specs.Algebra.{Algebra}
use Rattle.agenda.specs.Cells.{blank_cell}
use Rattle.agenda.specs.declared.cells.Cell.{Cell}
use Rattle.estimate.specs.declared.entry.Entry.{Entry}

-- The one that costs less, or as much with a lower number.
unfoldable pub cheaper : (A : Algebra) {W : Type 0} → (W → A.Exact) → Entry W → Entry W → Bool
cheaper A exact x y =
    elim (A.order (exact x.cost) (exact y.cost)) [
      | inl _ ↦ nat_lt x.category y.category
      | inr o ↦ elim o [ inl _ ↦ true | inr _ ↦ false ]
    ]

abbrev pub place : {W : Type 0} → Entry W → ℕ
place x = x.category

-- What a blank cell of the agenda holds.
abbrev pub blank_entry : {W : Type 0} → W → Entry W
blank_entry nothing = record { cost = nothing; category = 0 }

-- The first n weights are none.
abbrev pub BlankRow : {W : Type 0} → W → ℕ → List W → Type 0
BlankRow nothing n row = take n row ≡ replicate n nothing

-- The first n cells are blank.
abbrev pub BlankCells : {W : Type 0} → W → ℕ → List (Cell (Entry W)) → Type 0
BlankCells nothing n cells = take n cells ≡ replicate n (blank_cell (blank_entry nothing))
