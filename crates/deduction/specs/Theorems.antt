-- What a best-first search has found: the theorems, over rules by number and entries in lists, as contracts can state them. Assumes nothing.
--   Rules A        rules by number; `system` is their deduction system
--   Fair R e       what the theorems ask of rules and estimate
--   Between        what holds between turns
use Rattle.std.specs.Prelude.{◌≡◌, ℕ, ◌≤◌, ◌⊎◌, List, [], ◌∷◌, length}
use Rattle.weight.specs.Algebra.{Algebra, Le}
use Rattle.deduction.specs.Counts.{Among, Listed, Number, Exceeds}
use Rattle.deduction.specs.Deduction.{System, Der, NotAfter, Derives, NoWorse, Priced, Labelled, Consistent, Floor, FloorConsistent, Fits, cost, word, key, Keyed}
use Rattle.deduction.specs.Search.{Item, Searched, Begun, Turned, Least, HasKey, Counted}

-- Rules by number.
pub record Rules (A : Algebra) : Type 0 where
  pub concl : ℕ → ℕ
  pub prems : ℕ → List ℕ
  pub price : ℕ → A.Exact
  pub letters : ℕ → List ℕ

abbrev pub system : {A : Algebra} → Rules A → System A
system R = record { Rule = ℕ; concl = R.concl; prems = R.prems; price = R.price; letters = R.letters }

-- Rules with premises cost something, and the estimate is consistent.
pub record Fair {A : Algebra} (R : Rules A) (e : ℕ → A.Exact) : Type 0 where
  pub priced : Priced (system R)
  pub consistent : Consistent (system R) e

-- The derivation d of x is among the entries.
abbrev pub In : List (Der ℕ × ℕ) → Der ℕ → ℕ → Type 0
In es d x = Among (d, x) es

abbrev pub Between : {A : Algebra} (R : Rules A) → (ℕ → A.Exact) → (S Q : List (Der ℕ × ℕ)) → List ℕ → Type 0
Between R e S Q xs = Searched (system R) e (In S) (In Q) xs

-- Before the first turn what holds between turns holds, with nothing settled.
abbrev pub Starts : Algebra → Type 0
Starts A = (R : Rules A) (e : ℕ → A.Exact) (S Q : List (Der ℕ × ℕ)) → Begun (system R) e (In S) (In Q) → Between R e S Q []

-- A turn that settles the least entry and offers what is due keeps it, with one item more.
abbrev pub Steps : Algebra → Type 0
Steps A = (R : Rules A) (e : ℕ → A.Exact) → Fair R e → (S Q S' Q' : List (Der ℕ × ℕ)) (xs : List ℕ) (s : Der ℕ) (x : ℕ)
    → Between R e S Q xs → Turned (system R) e (In S) (In Q) (In S') (In Q') s x → Between R e S' Q' (x ∷ xs)

-- Every derivation with a key is of a settled item, or some entry is not after it.
abbrev pub Frontier : Algebra → Type 0
Frontier A = (R : Rules A) (e : ℕ → A.Exact) → Fair R e → (S Q : List (Der ℕ × ℕ)) (xs : List ℕ) → Between R e S Q xs
    → (d : Der ℕ) (x : ℕ) → Derives (system R) d x → Keyed (system R) e d x
    → Item (In S) x ⊎ ((c : Der ℕ) × (y : ℕ) × In Q c y × NotAfter A (key (system R) e c y) (key (system R) e d x))

-- A derivation of x that no derivation of x beats: none is lighter, none as light with an earlier word.
pub record Best {A : Algebra} (R : Rules A) (d : Der ℕ) (x : ℕ) : Type 0 where
  pub derives : Derives (system R) d x
  pub fits : Fits (system R) d
  pub least : (c : Der ℕ) → Derives (system R) c x → NoWorse (system R) d c

-- Settled derivations are best, and so is the least entry.
pub record FindsBest (A : Algebra) : Type 0 where
  pub settled : (R : Rules A) (e : ℕ → A.Exact) → Fair R e → (S Q : List (Der ℕ × ℕ)) (xs : List ℕ) → Between R e S Q xs
      → (d : Der ℕ) (x : ℕ) → In S d x → Best R d x
  pub popped : (R : Rules A) (e : ℕ → A.Exact) → Fair R e → (S Q : List (Der ℕ × ℕ)) (xs : List ℕ) → Between R e S Q xs
      → (d : Der ℕ) (x : ℕ) → Least (system R) e (In Q) d x → Best R d x

-- The turns of a search for g, while g is not settled.
pub record TurnsAre (A : Algebra) : Type 0 where
  -- the goal comes first: they are one more than the settled items
  pub reached : (R : Rules A) (e : ℕ → A.Exact) → Fair R e → (S Q : List (Der ℕ × ℕ)) (xs : List ℕ) → Between R e S Q xs
      → (s : Der ℕ) (g : ℕ) → Least (system R) e (In Q) s g → Listed (Counted (system R) e g) (g ∷ xs)
  -- nothing is left: they are the settled items, and those are the items with a key
  pub emptied : (R : Rules A) (e : ℕ → A.Exact) → Fair R e → (S : List (Der ℕ × ℕ)) (xs : List ℕ) → Between R e S [] xs
      → (g : ℕ) → (Among g xs → ⊥) → Listed (Counted (system R) e g) xs × Listed (HasKey (system R) e) xs
  -- another comes first: they are more than the settled items
  pub exceeded : (R : Rules A) (e : ℕ → A.Exact) → Fair R e → (S Q : List (Der ℕ × ℕ)) (xs : List ℕ) → Between R e S Q xs
      → (s : Der ℕ) (x : ℕ) → Least (system R) e (In Q) s x → (g : ℕ) → (Among g xs → ⊥) → Exceeds (Counted (system R) e g) (length xs)

-- Nothing is left, and the goal, whose estimate is none, is not settled: it has no derivation within the ceiling.
abbrev pub NothingFound : Algebra → Type 0
NothingFound A = (R : Rules A) (e : ℕ → A.Exact) → Fair R e → (S : List (Der ℕ × ℕ)) (xs : List ℕ) → Between R e S [] xs
    → (g : ℕ) → e g ≡ A.none → (Among g xs → ⊥) → (d : Der ℕ) → Derives (system R) d g → Fits (system R) d → ⊥

-- Two searches for g by two estimates, both none at g.
pub record TwoEstimates (A : Algebra) : Type 0 where
  -- whatever the estimates, the answers weigh the same and have one word
  pub same : (R : Rules A) (e e' : ℕ → A.Exact) → Fair R e → Fair R e' → (S Q S' Q' : List (Der ℕ × ℕ)) (xs xs' : List ℕ) → Between R e S Q xs → Between R e' S' Q' xs'
      → (g : ℕ) (s s' : Der ℕ) → Least (system R) e (In Q) s g → Least (system R) e' (In Q') s' g
      → (cost (system R) s ≡ cost (system R) s') × (word (system R) s ≡ word (system R) s')
  -- an estimate that is nowhere lower takes no more turns
  pub fewer : (R : Rules A) (e e' : ℕ → A.Exact) → ((x : ℕ) → Le A (e x) (e' x)) → (g : ℕ) → e g ≡ A.none → e' g ≡ A.none
      → (m n : ℕ) → Number (Counted (system R) e' g) m → Number (Counted (system R) e g) n → m ≤ n

-- An estimate is consistent where it is none everywhere, or keeps the law over least costs.
pub record EstimatesAreConsistent (A : Algebra) : Type 0 where
  pub none : (R : Rules A) → Consistent (system R) (λ x. A.none)
  pub by_floor : (R : Rules A) (e low : ℕ → A.Exact) → Floor (system R) low → FloorConsistent (system R) e low → Consistent (system R) e

-- Where labels tell how many premises follow, of two derivations one is no worse.
abbrev pub Total : Algebra → Type 0
Total A = (R : Rules A) → Labelled (system R) → (c d : Der ℕ) (x y : ℕ) → Derives (system R) c x → Derives (system R) d y
    → NoWorse (system R) c d ⊎ NoWorse (system R) d c
