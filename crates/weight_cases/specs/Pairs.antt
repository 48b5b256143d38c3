-- The combination of two numbers' weights, and what is shown of it. Assumes nothing.
use Rattle.std.specs.Prelude.{◌≡◌, ℕ, ◌<◌, ◌⊎◌, Some, None, Option}
use Rattle.weight.specs.Algebra.{Algebra}

-- r holds the weights of m and n combined, or is nothing, where one is too small or the combination above the ceiling.
abbrev pub Paired : (A : Algebra) {W : Type 0} → (W → A.Exact) → Option W → ℕ → ℕ → Type 0
Paired A exact None m n = (m < A.least) ⊎ ((n < A.least) ⊎ A.lt A.ceiling (A.plus (A.taken m) (A.taken n)))
Paired A exact (Some w) m n = exact w ≡ A.plus (A.taken m) (A.taken n)

-- n is the number that a weight shows, or 0 for nothing.
abbrev pub Shown : (A : Algebra) {W : Type 0} → (W → A.Exact) → Option W → ℕ → Type 0
Shown A exact None n = n ≡ 0
Shown A exact (Some w) n = n ≡ A.shown (exact w)
