-- What exact weights are, the laws that they keep, and what the answers of a weight kind say. Assumes nothing.
--   Algebra            a set of exact weights: order, combination, none, ceiling, and the numbers that stand for weights
--   widest             the largest weight number that a pack can write
--   Le A a b           a is not above b
--   Lawful A           the laws of exact weights
--   Compared A a b r   r tells how a lies to b
--   Within A exact r e r holds e, or is nothing and e is above the ceiling
--   Taken A exact r n  r holds the weight of the number n, or is nothing and n is below the least
--   larger             the larger of two values
--   total              the combination of a row of values
use Rattle.std.specs.Prelude.{◌≡◌, ℕ, ◌^◌, ◌<◌, ◌≤◌, ◌⊎◌, List, [], ◌∷◌, Some, None, Option}
use Rattle.std.specs.declared.cmp.Ordering.TheVariants.{Less, Equal, Greater}
use Rattle.std.specs.declared.cmp.Ordering.{Ordering}
use Rattle.std.proofs.Common.{inl, inr}

-- The exact weights of a kind; they need not be numbers.
pub record Algebra : Type 1 where
  pub Exact : Type 0
  -- the first is below the second
  pub lt : Exact → Exact → Type 0
  -- the order is total, and can be told
  pub order : (a b : Exact) → (a ≡ b) ⊎ (lt a b ⊎ lt b a)
  pub none : Exact
  pub plus : Exact → Exact → Exact
  -- the largest weight that the kind holds
  pub ceiling : Exact
  -- the kind's number in a pack, and the least weight number that it takes
  pub kind : ℕ
  pub least : ℕ
  -- the weight that a number stands for, and the number by which a weight is shown
  pub taken : ℕ → Exact
  pub shown : Exact → ℕ

-- The largest weight number that a pack can write: it has two bytes.
abbrev pub widest : ℕ
widest = 65535

-- a is not above b.
abbrev pub Le : (A : Algebra) → A.Exact → A.Exact → Type 0
Le A a b = A.lt b a → ⊥

-- The laws of exact weights.
pub record Lawful (A : Algebra) : Type 0 where
  -- nothing is below itself, and below what is below is below
  pub irrefl : (a : A.Exact) → A.lt a a → ⊥
  pub trans : (a b c : A.Exact) → A.lt a b → A.lt b c → A.lt a c
  -- none is lowest, and combining with it changes nothing
  pub lowest : (a : A.Exact) → Le A A.none a
  pub identity : (a : A.Exact) → A.plus A.none a ≡ a
  pub assoc : (a b c : A.Exact) → A.plus (A.plus a b) c ≡ A.plus a (A.plus b c)
  pub comm : (a b : A.Exact) → A.plus a b ≡ A.plus b a
  -- a below b stays below it when both are combined with c
  pub rises : (a b c : A.Exact) → A.lt a b → A.lt (A.plus a c) (A.plus b c)
  -- what is not above a weight within the ceiling is within it
  pub closed : (a b : A.Exact) → Le A b A.ceiling → Le A a b → Le A a A.ceiling
  -- a pack can write the least number; each from it on is a held weight above none, and a larger one is heavier
  pub written : A.least ≤ widest
  pub above : (n : ℕ) → A.least ≤ n → n ≤ widest → A.lt A.none (A.taken n)
  pub fits : (n : ℕ) → A.least ≤ n → n ≤ widest → Le A (A.taken n) A.ceiling
  pub heavier : (m n : ℕ) → A.least ≤ m → m < n → n ≤ widest → A.lt (A.taken m) (A.taken n)
  -- the shown number of what is held has 32 bits, and rises with the weight
  pub shows : (a : A.Exact) → Le A a A.ceiling → A.shown a < 2 ^ 32
  pub rising : (a b : A.Exact) → A.lt a b → Le A b A.ceiling → A.shown a < A.shown b

-- The answer of a comparison of a with b.
abbrev pub Compared : (A : Algebra) → A.Exact → A.Exact → Ordering → Type 0
Compared A a b Less = A.lt a b
Compared A a b Equal = a ≡ b
Compared A a b Greater = A.lt b a

-- r holds the exact weight e, or is nothing, where e is above the ceiling.
abbrev pub Within : (A : Algebra) {W : Type 0} → (W → A.Exact) → Option W → A.Exact → Type 0
Within A exact None e = A.lt A.ceiling e
Within A exact (Some w) e = exact w ≡ e

-- r holds the weight of the number n, or is nothing, where n is below the least.
abbrev pub Taken : (A : Algebra) {W : Type 0} → (W → A.Exact) → Option W → ℕ → Type 0
Taken A exact None n = n < A.least
Taken A exact (Some w) n = (A.least ≤ n) × (exact w ≡ A.taken n)

-- The value that holds more, the first where both hold the same.
unfoldable pub larger : (A : Algebra) {W : Type 0} → (W → A.Exact) → W → W → W
larger A exact v w = elim (A.order (exact v) (exact w)) [ inl _ ↦ v | inr o ↦ elim o [ inl _ ↦ w | inr _ ↦ v ] ]

-- The larger of two exact weights.
abbrev pub larger_of : (A : Algebra) → A.Exact → A.Exact → A.Exact
larger_of A a b = larger A (λ e. e) a b

-- The combination of all that a row holds.
abbrev pub total : (A : Algebra) {W : Type 0} → (W → A.Exact) → List W → A.Exact
total A exact [] = A.none
total A exact (w ∷ ws) = A.plus (exact w) (total A exact ws)
