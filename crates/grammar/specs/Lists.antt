-- The last entry of a list, and the others. Assumes nothing.
--   all_but_last xs   the entries before the last
--   last_or d xs      the last entry
use Rattle.std.specs.Prelude.{◌-◌, List, length, take, slice_index_or}

abbrev pub all_but_last : {X : Type 0} → List X → List X
all_but_last xs = take (length xs - 1) xs

-- the last entry, or d where there is none
abbrev pub last_or : {X : Type 0} → X → List X → X
last_or d xs = slice_index_or xs (length xs - 1) d
