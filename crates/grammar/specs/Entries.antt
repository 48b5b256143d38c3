-- What a row of the held grammar holds. Assumes nothing.
--   entries r   the entries of the row r, first to last
use Rattle.std.specs.Prelude.{ℕ, List, take}
use Rattle.grammar.specs.declared.row.Row.{Row}

abbrev pub entries : {T : Type 0} {n : ℕ} → Row T n → List T
entries r = take r.count r.cells
