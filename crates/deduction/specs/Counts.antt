-- How many there are of a kind: the length of a list without repetition that has these and no other. Assumes nothing.
--   Among x xs      x stands in xs
--   Distinct xs     no two of xs are the same
--   Listed P xs     xs lists those with P, each once
--   Number P n      n is the number of those with P
--   Exceeds P b     there are more than b with P
use Rattle.std.specs.Prelude.{◌≡◌, ℕ, ◌<◌, ◌≤◌, Bool, true, ◌⊎◌, List, [], ◌∷◌, length}

abbrev pub Among : {X : Type 0} → X → List X → Type 0
Among x [] = ⊥
Among x (y ∷ ys) = (x ≡ y) ⊎ Among x ys

abbrev pub Distinct : {X : Type 0} → List X → Type 0
Distinct [] = Unit {0}
Distinct (x ∷ xs) = (Among x xs → ⊥) × Distinct xs

-- xs lists those with P, each once.
pub record Listed {X : Type 0} (P : X → Type 0) (xs : List X) : Type 0 where
  pub distinct : Distinct xs
  pub sound : (x : X) → Among x xs → P x
  pub complete : (x : X) → P x → Among x xs

-- n is the number of those with P.
abbrev pub Number : {X : Type 0} → (X → Type 0) → ℕ → Type 0
Number {X} P n = (xs : List X) × Listed P xs × (length xs ≡ n)

-- There are more than b with P: a list without repetition of some of them is longer than b.
pub record Exceeds {X : Type 0} (P : X → Type 0) (b : ℕ) : Type 0 where
  pub some : List X
  pub distinct : Distinct some
  pub sound : (x : X) → Among x some → P x
  pub longer : b < length some

-- A clause takes a fact of `Type 0`, so the theorems are stated of numbers, with a test in the place of a predicate.
abbrev pub Such : (ℕ → Bool) → ℕ → Type 0
Such p x = p x ≡ true

-- A kind has one number.
abbrev pub OneNumber : Type 0
OneNumber = (p : ℕ → Bool) (m n : ℕ) → Number (Such p) m → Number (Such p) n → m ≡ n

-- A kind that is part of another has no larger number.
abbrev pub RisingNumber : Type 0
RisingNumber = (p q : ℕ → Bool) (m n : ℕ) → ((x : ℕ) → Such p x → Such q x) → Number (Such p) m → Number (Such q) n → m ≤ n

-- There are more than b exactly where the number is above b.
pub record Exceeding : Type 0 where
  pub above : (p : ℕ → Bool) (b n : ℕ) → Number (Such p) n → Exceeds (Such p) b → b < n
  pub exceeds : (p : ℕ → Bool) (b n : ℕ) → Number (Such p) n → b < n → Exceeds (Such p) b
