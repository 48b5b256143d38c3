-- Weighted deduction: rules over numbered items, derivations, their order and their keys. Assumes nothing.
--   System A               rules: a conclusion, premises, a price, and letters for the words
--   Der R, Ders R          derivations of rules R, and lists of them
--   Derives D d x          d derives the item x
--   cost D d, word D d     the prices combined, and the letters in preorder
--   NoWorse D c d          c is lighter, or as heavy and its word not later
--   Fits D d               the cost is within the ceiling
--   Key A                  what an agenda is ordered by: cost with estimate, then cost, then item
--   Keyed D e d x          the cost with the estimate is within the ceiling
--   Consistent D e         no estimate is above what the way from its item can cost
--   Floor, FloorConsistent the same law, stated over least costs in the place of derivations
use Rattle.std.specs.Prelude.{◌≡◌, ℕ, zero, suc, ◌<◌, ◌⊎◌, List, [], ◌∷◌, ◌++◌, length, ◌≢◌, slice_index}
use Rattle.weight.specs.Algebra.{Algebra, Le}

-- A rule gives its conclusion from its premises, at a price; its letters stand in words.
pub record System (A : Algebra) : Type 1 where
  pub Rule : Type 0
  pub concl : Rule → ℕ
  pub prems : Rule → List ℕ
  pub price : Rule → A.Exact
  pub letters : Rule → List ℕ

-- Prices of rules with premises are above none.
abbrev pub Priced : {A : Algebra} (D : System A) → Type 0
Priced {A} D = (r : D.Rule) → (D.prems r ≢ []) → A.lt A.none (D.price r)

-- Each rule has one letter, its label, which tells how many premises there are.
pub record Labelled {A : Algebra} (D : System A) : Type 0 where
  pub label : D.Rule → ℕ
  pub letter : (r : D.Rule) → D.letters r ≡ label r ∷ []
  pub arity : (r s : D.Rule) → label r ≡ label s → length (D.prems r) ≡ length (D.prems s)

-- No rule has a letter, so that derivations are ordered by their cost alone.
abbrev pub Silent : {A : Algebra} (D : System A) → Type 0
Silent D = (r : D.Rule) → D.letters r ≡ []

mutual
  pub data Der (R : Type 0) : Type 0 where
    node : R → Ders R → Der R

  pub data Ders (R : Type 0) : Type 0 where
    none : Ders R
    more : Der R → Ders R → Ders R

-- All but the derivation at place i.
abbrev pub omit : {R : Type 0} → ℕ → Ders R → Ders R
omit i none = none
omit zero (more d ds) = ds
omit (suc i) (more d ds) = more d (omit i ds)

-- P holds of each derivation with the item at its place.
abbrev pub Each : {R : Type 0} → (Der R → ℕ → Type 0) → Ders R → List ℕ → Type 0
Each P none [] = Unit {0}
Each P none (x ∷ xs) = ⊥
Each P (more d ds) [] = ⊥
Each P (more d ds) (x ∷ xs) = P d x × Each P ds xs

-- Earlier, and not as a front of the other.
abbrev pub Sooner : List ℕ → List ℕ → Type 0
Sooner [] ys = ⊥
Sooner (x ∷ xs) [] = ⊥
Sooner (x ∷ xs) (y ∷ ys) = (x < y) ⊎ ((x ≡ y) × Sooner xs ys)

abbrev pub NotLater : List ℕ → List ℕ → Type 0
NotLater v w = (v ≡ w) ⊎ Sooner v w

-- Lighter, or as heavy and with a word that is not later.
abbrev pub Upto : (A : Algebra) → A.Exact → List ℕ → A.Exact → List ℕ → Type 0
Upto A a v b w = A.lt a b ⊎ ((a ≡ b) × NotLater v w)

-- What entries are ordered by: the cost with the estimate, then the cost, then the item.
pub record Key (A : Algebra) : Type 0 where
  pub whole : A.Exact
  pub cost : A.Exact
  pub item : ℕ

abbrev pub Before : (A : Algebra) → Key A → Key A → Type 0
Before A k l = A.lt k.whole l.whole ⊎ ((k.whole ≡ l.whole) × (A.lt k.cost l.cost ⊎ ((k.cost ≡ l.cost) × (k.item < l.item))))

abbrev pub NotAfter : (A : Algebra) → Key A → Key A → Type 0
NotAfter A k l = Before A l k → ⊥

module _ {A : Algebra} (D : System A) where
  -- d is a derivation of x
  abbrev mutual
    pub Derives : Der D.Rule → ℕ → Type 0
    Derives (node r ds) x = (D.concl r ≡ x) × DerivesAll ds (D.prems r)

    pub DerivesAll : Ders D.Rule → List ℕ → Type 0
    DerivesAll none [] = Unit {0}
    DerivesAll none (x ∷ xs) = ⊥
    DerivesAll (more d ds) [] = ⊥
    DerivesAll (more d ds) (x ∷ xs) = Derives d x × DerivesAll ds xs

  abbrev mutual
    pub cost : Der D.Rule → A.Exact
    cost (node r ds) = A.plus (D.price r) (cost_all ds)

    pub cost_all : Ders D.Rule → A.Exact
    cost_all none = A.none
    cost_all (more d ds) = A.plus (cost d) (cost_all ds)

  -- the letters, in preorder
  abbrev mutual
    pub word : Der D.Rule → List ℕ
    word (node r ds) = D.letters r ++ word_all ds

    pub word_all : Ders D.Rule → List ℕ
    word_all none = []
    word_all (more d ds) = word d ++ word_all ds

  -- d is lighter than d', or as heavy and not later
  abbrev pub NoWorse : Der D.Rule → Der D.Rule → Type 0
  NoWorse c d = Upto A (cost c) (word c) (cost d) (word d)

  abbrev pub NoWorseAll : Ders D.Rule → Ders D.Rule → Type 0
  NoWorseAll none none = Unit {0}
  NoWorseAll none (more d ds) = ⊥
  NoWorseAll (more c cs) none = ⊥
  NoWorseAll (more c cs) (more d ds) = NoWorse c d × NoWorseAll cs ds

  -- within the ceiling
  abbrev pub Fits : Der D.Rule → Type 0
  Fits d = Le A (cost d) A.ceiling

  module _ (e : ℕ → A.Exact) where
    abbrev pub key : Der D.Rule → ℕ → Key A
    key d x = record { whole = A.plus (cost d) (e x); cost = cost d; item = x }

    -- within the ceiling with the estimate
    abbrev pub Keyed : Der D.Rule → ℕ → Type 0
    Keyed d x = Le A (A.plus (cost d) (e x)) A.ceiling

    -- a premise's estimate is not above what the conclusion's, the price and the other premises' derivations come to
    abbrev pub Consistent : Type 0
    Consistent = (r : D.Rule) (ds : Ders D.Rule) → DerivesAll ds (D.prems r) → Fits (node r ds) → (i : ℕ) → i < length (D.prems r)
        → Le A (e (slice_index (D.prems r) i)) (A.plus (A.plus (e (D.concl r)) (D.price r)) (cost_all (omit i ds)))

-- All but the item at place i.
abbrev pub but : ℕ → List ℕ → List ℕ
but i [] = []
but zero (x ∷ xs) = xs
but (suc i) (x ∷ xs) = x ∷ but i xs

-- The combination of low over some items.
abbrev pub sum : (A : Algebra) → (ℕ → A.Exact) → List ℕ → A.Exact
sum A low [] = A.none
sum A low (x ∷ xs) = A.plus (low x) (sum A low xs)

-- low is not above any derivation within the ceiling.
abbrev pub Floor : {A : Algebra} (D : System A) → (ℕ → A.Exact) → Type 0
Floor {A} D low = (d : Der D.Rule) (x : ℕ) → Derives D d x → Fits D d → Le A (low x) (cost D d)

-- A premise's estimate is not above what the conclusion's, the price and the other premises' floors come to, where all premises have a derivation within the ceiling.
abbrev pub FloorConsistent : {A : Algebra} (D : System A) → (e low : ℕ → A.Exact) → Type 0
FloorConsistent {A} D e low = (r : D.Rule) (ds : Ders D.Rule) → Each (λ d x. Derives D d x × Fits D d) ds (D.prems r) → (i : ℕ) → i < length (D.prems r)
    → Le A (e (slice_index (D.prems r) i)) (A.plus (A.plus (e (D.concl r)) (D.price r)) (sum A low (but i (D.prems r))))
