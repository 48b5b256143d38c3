-- Where entries lie, by their index. Assumes nothing.
--   Placed index xs slots      the slot of each entry's index says where the entry lies
--   Swaps xs ys a b            ys is xs with the entries at a and b exchanged
--   Absent, Present            no entry has the index k; the entry at p has it
--   Improved                   what became of the entry with e's index
use Rattle.std.specs.Prelude.{◌≡◌, ℕ, ◌<◌, Bool, true, false, List, length, get_or, ◌≢◌, slice_index, slice_index_or, slice_set}
use Rattle.std.specs.List.Sorted.{IsPermutation}

-- below n, the value at i has an index x i of its own, and slots says at x i that it lies at i
abbrev pub PlacedAt : (ℕ → ℕ) → List ℕ → ℕ → Type 0
PlacedAt x slots n = (i : ℕ) → i < n → (x i < length slots) × (slice_index slots (x i) ≡ i)

-- g is f with the values at a and b in each other's place
abbrev pub SwapAt : {X : Type 0} → (ℕ → X) → (ℕ → X) → ℕ → ℕ → Type 0
SwapAt f g a b = (g a ≡ f b) × (g b ≡ f a) × ((m : ℕ) → (m ≢ a) → (m ≢ b) → g m ≡ f m)

module _ {X : Type 0} where
  abbrev pub Placed : (X → ℕ) → List X → List ℕ → Type 0
  Placed index xs slots = (d : X) → PlacedAt (λ i. index (slice_index_or xs i d)) slots (length xs)

  abbrev pub Swaps : List X → List X → ℕ → ℕ → Type 0
  Swaps xs ys a b = (d : X) → SwapAt (λ i. get_or xs i d) (λ i. get_or ys i d) a b

  -- no entry of xs has the index k
  abbrev pub Absent : (X → ℕ) → List X → ℕ → Type 0
  Absent index xs k = (i : ℕ) (d : X) → i < length xs → index (slice_index_or xs i d) ≢ k

  -- the entry of xs at p has the index k
  abbrev pub Present : (X → ℕ) → List X → ℕ → ℕ → Type 0
  Present index xs k p = (p < length xs) × ((d : X) → index (slice_index_or xs p d) ≡ k)

  -- e came in the place of the entry of xs with its index, after which it did not come, and the entries are now ys
  abbrev pub Improved : (X → ℕ) → (X → X → Bool) → List X → X → List X → Bool → Type 0
  Improved index lt xs e ys true = (p : ℕ) × Present index xs (index e) p × ((d : X) → lt e (slice_index_or xs p d) ≡ true) × IsPermutation (slice_set xs p e) ys
  Improved index lt xs e ys false = (ys ≡ xs) × ((p : ℕ) (d : X) → p < length xs → index (slice_index_or xs p d) ≡ index e → lt e (slice_index_or xs p d) ≡ false)
