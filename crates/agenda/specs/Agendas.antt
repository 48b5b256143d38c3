-- What an agenda holds, and what each call does to it. Assumes nothing.
--   room a, cells_of a          how many cells were lent, and what they hold
--   count a                     how many entries are held
--   entries a                   the entries held, in the order in which they lie
--   Bounded index xs n          the indices of xs lie below n
--   Holding index xs k e        e is the entry of xs with the index k
--   Pushed, Popped, Improves, Offered    the entries xs became ys by a call
use Rattle.std.specs.Prelude.{◌≡◌, ℕ, ◌<◌, Bool, true, false, ◌⊎◌, List, [], ◌∷◌, length, Some, None, Option, ◌≢◌}
use Rattle.std.specs.List.Sorted.{IsPermutation}
use Rattle.std.specs.List.{ContainsAt as Has}
use Rattle.std.specs.declared.cmp.Ord as Ord
use Rattle.std.specs.declared.cmp.PartialEq as PartialEq
use Rattle.std.specs.declared.cmp.PartialOrd as PartialOrd
use Rattle.agenda.specs.declared.entry.Slotted as Slotted
use Rattle.agenda.specs.Orders.{First}
use Rattle.agenda.specs.Cells.{held}
use Rattle.agenda.specs.declared.agenda.Agenda.{Agenda}
use Rattle.agenda.specs.declared.cells.Cell.{Cell}

module _ {X : Type 0} {slotted : Slotted.Ghosts X} {ord : Ord.Ghosts X} {eq : PartialEq.Ghosts X} {partial : PartialOrd.Ghosts X} where
  abbrev pub cells_of : Agenda X slotted ord eq partial → List (Cell X)
  cells_of a = a.cells.now

  -- How many entries there is room for; an index below it can be held.
  abbrev pub room : Agenda X slotted ord eq partial → ℕ
  room a = length (cells_of a)

  -- How many entries are held.
  abbrev pub count : Agenda X slotted ord eq partial → ℕ
  count a = a.len

  abbrev pub entries : Agenda X slotted ord eq partial → List X
  entries a = held (cells_of a) a.len

module _ {X : Type 0} where
  -- The indices of xs lie below n.
  abbrev pub Bounded : (X → ℕ) → List X → ℕ → Type 0
  Bounded index xs n = (x : X) → Has xs x → index x < n

  -- e is the entry of xs with the index k.
  abbrev pub Holding : (X → ℕ) → List X → ℕ → X → Type 0
  Holding index xs k e = Has xs e × (index e ≡ k)

-- ys is xs and e.
pub record Pushed {X : Type 0} (e : X) (xs ys : List X) : Type 0 where
  pub adds : IsPermutation (e ∷ xs) ys
  pub new : Has ys e
  pub kept : (x : X) → Has xs x → Has ys x
  pub only : (x : X) → Has ys x → (x ≡ e) ⊎ Has xs x

-- ys is xs without e, which came first; its index is free again.
pub record Taken {X : Type 0} (lt : X → X → Bool) (index : X → ℕ) (e : X) (xs ys : List X) : Type 0 where
  pub takes : IsPermutation xs (e ∷ ys)
  pub member : Has xs e
  pub first : First lt e xs
  pub kept : (x : X) → Has xs x → (x ≡ e) ⊎ Has ys x
  pub only : (x : X) → Has ys x → Has xs x × (index x ≢ index e)

-- What `pop` answers: nothing of an empty agenda, else the first entry.
abbrev pub Popped : {X : Type 0} → (X → X → Bool) → (X → ℕ) → Option X → List X → List X → Type 0
Popped lt index None xs ys = (xs ≡ []) × (ys ≡ [])
Popped lt index (Some e) xs ys = Taken lt index e xs ys

-- ys is xs with e in the place of the entry with its index, before which e comes.
pub record Replaced {X : Type 0} (lt : X → X → Bool) (index : X → ℕ) (e : X) (xs ys : List X) : Type 0 where
  pub old : X
  pub member : Has xs old
  pub same : index old ≡ index e
  pub before : lt e old ≡ true
  pub swaps : IsPermutation (e ∷ xs) (old ∷ ys)
  pub new : Has ys e
  pub kept : (x : X) → Has xs x → (index x ≢ index e) → Has ys x
  pub only : (x : X) → Has ys x → (x ≡ e) ⊎ (Has xs x × (index x ≢ index e))

-- What `improve` answers: whether e came in; it does not, where no entry has its index or e does not come before that one.
abbrev pub Improves : {X : Type 0} → (X → X → Bool) → (X → ℕ) → X → List X → List X → Bool → Type 0
Improves {X = X} lt index e xs ys true = Replaced lt index e xs ys
Improves {X = X} lt index e xs ys false = (ys ≡ xs) × ((x : X) → Has xs x → index x ≡ index e → lt e x ≡ false)

-- e was offered: an entry with its index is held that does not come after e, and so for each that was held one that does not come after it; those with other indices are kept, and only e is new.
pub record Offered {X : Type 0} (lt : X → X → Bool) (index : X → ℕ) (e : X) (xs ys : List X) : Type 0 where
  pub found : (x : X) × Has ys x × (index x ≡ index e) × (lt e x ≡ false)
  pub kept : (x : X) → Has xs x → (index x ≢ index e) → Has ys x
  pub covered : (x : X) → Has xs x → (y : X) × Has ys y × (index y ≡ index x) × (lt x y ≡ false)
  pub only : (x : X) → Has ys x → (x ≡ e) ⊎ Has xs x
