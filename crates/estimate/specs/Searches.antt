-- What a search for the lightest derivations has found so far: a row of weights, none at an item that is not settled, and an agenda. Assumes nothing.
--   Reached D x w        some derivation of x costs w
--   Found D x w          some derivation of x costs w, and none costs less
--   Beyond D x           no derivation of x is within the ceiling
--   at, Open, worth      the row's weight of an item; it is not settled; the weights of some items together
--   Weighed              what a price and the weights of some items come to
--   Searching D row es   what holds of the row and the agenda's entries
--   Closed D i row es    what the rules below i give has been offered
--   Solved D row         the row has the lightest cost of each item
--   Considered           what a rule leaves
--   opens row            how many items are not settled
use Rattle.std.specs.Prelude.{◌≡◌, ℕ, suc, ◌<◌, ◌⊎◌, List, [], ◌∷◌, Some, None, Option, slice_index_or}
use Rattle.std.proofs.Common.{inl, inr}
use Rattle.std.specs.List.{ContainsAt as Has}
use Rattle.weight.specs.Algebra.{Algebra, Le}
use Rattle.agenda.specs.Agendas.{Offered}
use Rattle.grammar.specs.Formed.{Each}
use Rattle.deduction.specs.Deduction.{System, Der, Derives, cost, sum}
use Rattle.estimate.specs.declared.entry.Entry.{Entry}
use Rattle.estimate.specs.declared.rules.Rule.{Rule}
use Rattle.estimate.specs.Entries.{cheaper, place}
use Rattle.estimate.specs.Rules.{premises_of, Numbered, system}

-- Some derivation of x costs w.
abbrev pub Reached : {A : Algebra} (D : System A) → ℕ → A.Exact → Type 0
Reached D x w = (d : Der D.Rule) × Derives D d x × (cost D d ≡ w)

-- Some derivation of x costs w, and none costs less.
pub record Found {A : Algebra} (D : System A) (x : ℕ) (w : A.Exact) : Type 0 where
  pub some : Reached D x w
  pub least : (d : Der D.Rule) → Derives D d x → Le A w (cost D d)

-- No derivation of x is within the ceiling.
abbrev pub Beyond : {A : Algebra} (D : System A) → ℕ → Type 0
Beyond {A} D x = (d : Der D.Rule) → Derives D d x → A.lt A.ceiling (cost D d)

module _ (A : Algebra) {W : Type 0} (exact : W → A.Exact) (nothing : W) where
  abbrev pub at : List W → ℕ → W
  at row x = slice_index_or row x nothing

  -- x is not settled.
  abbrev pub Open : List W → ℕ → Type 0
  Open row x = at row x ≡ nothing

  -- The weights of some items together.
  abbrev pub worth : List W → List ℕ → A.Exact
  worth row ps = sum A (λ p. exact (at row p)) ps

  -- All of ps are settled.
  abbrev pub AllSettled : List W → List ℕ → Type 0
  AllSettled row ps = Each (λ p. Open row p → ⊥) ps

  -- All of ps are settled and o is the price with their weights; or o is nothing, and where they are settled that is above the ceiling.
  abbrev pub Weighed : List W → A.Exact → List ℕ → Option W → Type 0
  Weighed row price ps None = AllSettled row ps → A.lt A.ceiling (A.plus price (worth row ps))
  Weighed row price ps (Some w) = AllSettled row ps × (exact w ≡ A.plus price (worth row ps))

  -- What is settled has its lightest cost, and what waits is not settled and has a derivation of its cost.
  pub record Searching (D : System A) (row : List W) (es : List (Entry W)) : Type 0 where
    pub settled : (x : ℕ) → (Open row x → ⊥) → Found D x (exact (at row x))
    pub queued : (e : Entry W) → Has es e → Open row e.category × Reached D e.category (exact e.cost)

  -- What a rule with a number below i gives from settled premises for an item that is not settled, if within the ceiling, waits, or something that costs no more.
  abbrev pub Closed : (n : ℕ) (gives : ℕ → Option (Rule W) → Type 0) → ℕ → List W → List (Entry W) → Type 0
  Closed n gives i row es =
      (r : Numbered n gives) → r.0 < i → AllSettled row (premises_of r.1.premises) → Open row r.1.result
      → Le A (A.plus (exact r.1.price) (worth row (premises_of r.1.premises))) A.ceiling
      → (e : Entry W) × Has es e × (e.category ≡ r.1.result) × Le A (exact e.cost) (A.plus (exact r.1.price) (worth row (premises_of r.1.premises)))

  -- At each item below n the row has its lightest cost, or none where no derivation is within the ceiling.
  abbrev pub Solved : System A → ℕ → List W → Type 0
  Solved D n row = (x : ℕ) → x < n → ((Open row x → ⊥) × Found D x (exact (at row x))) ⊎ (Open row x × Beyond D x)

-- A rule was considered, the agenda's entries being xs before and ys now: its conclusion is settled or it gives nothing, or what it gives was offered.
abbrev pub Considered : (A : Algebra) {W : Type 0} → (W → A.Exact) → W → List W → Rule W → (xs ys : List (Entry W)) → Type 0
Considered A {W} exact nothing row r xs ys =
    (((Open A exact nothing row r.result → ⊥) ⊎ Weighed A exact nothing row (exact r.price) (premises_of r.premises) None) × (ys ≡ xs))
    ⊎ ((w : W) × Open A exact nothing row r.result × Weighed A exact nothing row (exact r.price) (premises_of r.premises) (Some w)
    × Offered (cheaper A exact) place (record { cost = w; category = r.result }) xs ys)

-- The rules below i were considered: what held of the search holds still, and what they give has been offered.
abbrev pub AllOffered : (A : Algebra) {W : Type 0} → (W → A.Exact) → W → (n : ℕ) (gives : ℕ → Option (Rule W) → Type 0) → List W → List (Entry W) → ℕ → List (Entry W) → Type 0
AllOffered A exact nothing n gives row xs i ys =
    Searching A exact nothing (system A exact n gives) row xs → Searching A exact nothing (system A exact n gives) row ys × Closed A exact nothing n gives i row ys

-- How many items are not settled.
unfoldable pub opens : (A : Algebra) {W : Type 0} → (W → A.Exact) → List W → ℕ
opens A exact [] = 0
opens A exact (w ∷ ws) = elim (A.order (exact w) A.none) [ inl _ ↦ suc (opens A exact ws) | inr _ ↦ opens A exact ws ]
