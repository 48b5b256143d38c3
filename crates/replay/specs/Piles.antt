-- What a pile holds. Assumes nothing.
--   items p   the entries of the pile p, the topmost first
use Rattle.std.specs.Prelude.{ℕ, List, drop}
use Rattle.replay.specs.declared.pile.Pile.{Pile}

abbrev pub items : {T : Type 0} {n : ℕ} → Pile T n → List T
items p = drop p.top p.cells
