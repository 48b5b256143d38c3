-- What is said of a function that prints the entries of a list, one at a call. Assumes nothing.
--   Appends post spell   a call appends what `spell` makes of the entry and of its place
use Rattle.std.specs.Prelude.{◌≡◌, ℕ, List, ◌++◌, OnOk, string_bytes, Result}
use Rattle.std.specs.declared.string.String.{String}
use denote.Ref.{Bor, MutBor}

-- a call that fails for want of memory may have appended anything
abbrev pub Appends : {Z T E : Type 0} → (MutBor (String Z) → ℕ → Bor T → Result (Unit {0}) E → MutBor (String Z) → Type 0) → (ℕ → T → List ℕ) → Type 0
Appends {Z} {T} {E} post spell =
    (out : MutBor (String Z)) (i : ℕ) (x : Bor T) (r : Result (Unit {0}) E) (after : MutBor (String Z)) → post out i x r after
    → OnOk r (string_bytes after.now ≡ string_bytes out.now ++ spell i x.now)
