-- Total orders, and heaps over them. Assumes nothing.
--   before cmp              the test that cmp gives: whether one comes strictly before another
--   Ordered lt              lt is the test of a strict total order
--   decided order           the test that an order gives which tells how any two lie
--   Heap lt xs              no child comes before its parent, the children of p being at 2p + 1 and 2p + 2
--   Up lt xs j              a heap, but that the entry at j may come before its parent
--   Down lt xs j            a heap, but that children of j may come before the entry there
--   FirstChild lt xs j c    of the children of j, none comes before the one at c
--   First lt x xs           no entry of xs comes before x
use Rattle.std.specs.Prelude.{◌≡◌, ℕ, ◌+◌, ◌*◌, ◌<◌, ◌≤◌, Bool, true, false, ◌⊎◌, List, length, get_or, ◌≢◌, slice_index_or}
use Rattle.std.specs.declared.cmp.Ordering.{Ordering}
use Rattle.std.specs.Ordering.{is_lt}
use Rattle.std.proofs.Common.{inl, inr}

-- Whether x comes strictly before y, by the order that cmp tells.
abbrev pub before : {X : Type 0} → (X → X → Ordering) → X → X → Bool
before cmp x y = is_lt (cmp x y)

-- lt is the test of a total order: x comes strictly before y.
pub record Ordered {X : Type 0} (lt : X → X → Bool) : Type 0 where
  pub one_way : (x y : X) → lt x y ≡ true → lt y x ≡ false
  pub chain : (x y z : X) → lt x y ≡ false → lt y z ≡ false → lt x z ≡ false
  pub same : (x y : X) → lt x y ≡ false → lt y x ≡ false → x ≡ y

-- Whether x is below y, by an order that tells how any two lie.
abbrev pub decided : {X : Type 0} {L : X → X → Type 0} → ((x y : X) → (x ≡ y) ⊎ (L x y ⊎ L y x)) → X → X → Bool
decided order x y = elim (order x y) [ inl _ ↦ false | inr o ↦ elim o [ inl _ ↦ true | inr _ ↦ false ] ]

-- k is a child of p.
abbrev pub Child : ℕ → ℕ → Type 0
Child p k = (p * 2 + 1 ≤ k) × (k ≤ p * 2 + 2)

module _ {X : Type 0} (lt : X → X → Bool) where
  -- Below n, no child comes before its parent.
  abbrev pub HeapAt : (ℕ → X) → ℕ → Type 0
  HeapAt f n = (p k : ℕ) → Child p k → k < n → lt (f k) (f p) ≡ false

  -- A heap, but that the value at j may come before its parent.
  abbrev pub UpAt : (ℕ → X) → ℕ → ℕ → Type 0
  UpAt f j n =
      ((p k : ℕ) → Child p k → k < n → (k ≢ j) → lt (f k) (f p) ≡ false)
      × ((p k : ℕ) → Child p j → Child j k → k < n → lt (f k) (f p) ≡ false)

  -- A heap, but that children of j may come before the value there.
  abbrev pub DownAt : (ℕ → X) → ℕ → ℕ → Type 0
  DownAt f j n =
      ((p k : ℕ) → Child p k → k < n → (p ≢ j) → lt (f k) (f p) ≡ false)
      × ((p k : ℕ) → Child p j → Child j k → k < n → lt (f k) (f p) ≡ false)

  -- Of the children of j, none comes before the one at c.
  abbrev pub FirstChildAt : (ℕ → X) → ℕ → ℕ → ℕ → Type 0
  FirstChildAt f j c n = (k : ℕ) → Child j k → k < n → lt (f k) (f c) ≡ false

  abbrev pub Heap : List X → Type 0
  Heap xs = (d : X) → HeapAt (λ i. get_or xs i d) (length xs)

  abbrev pub Up : List X → ℕ → Type 0
  Up xs j = (d : X) → UpAt (λ i. get_or xs i d) j (length xs)

  abbrev pub Down : List X → ℕ → Type 0
  Down xs j = (d : X) → DownAt (λ i. get_or xs i d) j (length xs)

  abbrev pub FirstChild : List X → ℕ → ℕ → Type 0
  FirstChild xs j c = (d : X) → FirstChildAt (λ i. get_or xs i d) j c (length xs)

  -- No element of xs comes before x.
  abbrev pub First : X → List X → Type 0
  First x xs = (k : ℕ) (d : X) → k < length xs → lt (slice_index_or xs k d) x ≡ false
