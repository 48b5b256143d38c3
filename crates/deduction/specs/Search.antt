-- Best-first search: what holds between turns, and what one turn does. Assumes nothing.
-- S has the settled entries and Q those of the agenda; an entry is a derivation with its item.
--   Searched D e S Q xs    what holds between turns, xs being the settled items, the latest first
--   Begun, Beginning       what code shows before the first turn, whole and in part
--   Turned, Turning        what code shows of one turn, whole and in part
--   Offered                what code shows of one offer
--   Counted D e g x        x has a key, which is not after the goal's
--   Stage, Settled, Queued the entries of a chart that marks each item
use Rattle.std.specs.Prelude.{◌≡◌, ℕ, ◌⊎◌, List, [], ◌≢◌}
use Rattle.weight.specs.Algebra.{Algebra}
use Rattle.deduction.specs.Counts.{Among, Listed}
use Rattle.deduction.specs.Deduction.{System, Der, Ders, node, none, Each, Before, NotAfter, Derives, NoWorse, key, Keyed}

-- x has an entry.
abbrev pub Item : {R : Type 0} → (Der R → ℕ → Type 0) → ℕ → Type 0
Item {R} S x = (d : Der R) × S d x

-- x is a premise of the last rule.
abbrev pub Uses : {A : Algebra} (D : System A) → ℕ → Der D.Rule → Type 0
Uses D x (node r ds) = Among x (D.prems r)

-- the last rule gives x, from what S has for its premises.
abbrev pub Built : {A : Algebra} (D : System A) → (Der D.Rule → ℕ → Type 0) → Der D.Rule → ℕ → Type 0
Built D S (node r ds) x = (D.concl r ≡ x) × Each S ds (D.prems r)

-- x has an entry that is no worse than d.
abbrev pub Served : {A : Algebra} (D : System A) → (Der D.Rule → ℕ → Type 0) → Der D.Rule → ℕ → Type 0
Served D Q d x = (c : Der D.Rule) × Q c x × NoWorse D c d

-- x has a derivation with a key.
abbrev pub HasKey : {A : Algebra} (D : System A) → (ℕ → A.Exact) → ℕ → Type 0
HasKey D e x = (d : Der D.Rule) × Derives D d x × Keyed D e d x

-- x has a derivation whose key is not after that of the derivation s of g.
abbrev pub CountedTo : {A : Algebra} (D : System A) → (ℕ → A.Exact) → Der D.Rule → ℕ → ℕ → Type 0
CountedTo {A} D e s g x = (d : Der D.Rule) × Derives D d x × NotAfter A (key D e d x) (key D e s g)

-- x has a derivation with a key, which is not after that of any derivation of the goal g with one: the turns of a search for g are the number of these.
abbrev pub Counted : {A : Algebra} (D : System A) → (ℕ → A.Exact) → ℕ → ℕ → Type 0
Counted {A} D e g x =
    (d : Der D.Rule) × Derives D d x × Keyed D e d x × ((s : Der D.Rule) → Derives D s g → Keyed D e s g → NotAfter A (key D e d x) (key D e s g))

-- s at x is an entry that none is before.
pub record Least {A : Algebra} (D : System A) (e : ℕ → A.Exact) (Q : Der D.Rule → ℕ → Type 0) (s : Der D.Rule) (x : ℕ) : Type 0 where
  pub entry : Q s x
  pub least : (d : Der D.Rule) (y : ℕ) → Q d y → NotAfter A (key D e s x) (key D e d y)

-- d at x is made of what S has, and has a key.
pub record Sound {A : Algebra} (D : System A) (e : ℕ → A.Exact) (S : Der D.Rule → ℕ → Type 0) (d : Der D.Rule) (x : ℕ) : Type 0 where
  pub derives : Derives D d x
  pub keyed : Keyed D e d x
  pub built : Built D S d x

-- between turns: S has the settled entries, Q the agenda's, and xs the settled items, the latest first.
pub record Searched {A : Algebra} (D : System A) (e : ℕ → A.Exact) (S Q : Der D.Rule → ℕ → Type 0) (xs : List ℕ) : Type 0 where
  pub listed : Listed (Item S) xs
  pub settled : (d : Der D.Rule) (x : ℕ) → S d x → Sound D e S d x
  pub queued : (d : Der D.Rule) (x : ℕ) → Q d x → Sound D e S d x
  pub fresh : (c d : Der D.Rule) (x : ℕ) → S c x → Q d x → ⊥
  pub single : (c d : Der D.Rule) (x : ℕ) → Q c x → Q d x → c ≡ d
  pub closed : (r : D.Rule) (cs : Ders D.Rule) → Each S cs (D.prems r) → Keyed D e (node r cs) (D.concl r) → Item S (D.concl r) ⊎ Served D Q (node r cs) (D.concl r)
  pub best : (c : Der D.Rule) (x : ℕ) → S c x → (d : Der D.Rule) → Derives D d x → NoWorse D c d
  pub ordered : (c d : Der D.Rule) (x y : ℕ) → S c x → Q d y → Before A (key D e c x) (key D e d y)

-- before the first turn: nothing is settled, and of what rules without premises give that in Done was offered.
pub record Beginning {A : Algebra} (D : System A) (e : ℕ → A.Exact) (S Q : Der D.Rule → ℕ → Type 0) (Done : Der D.Rule → Type 0) : Type 0 where
  pub nothing : (d : Der D.Rule) (x : ℕ) → S d x → ⊥
  pub agenda : (d : Der D.Rule) (x : ℕ) → Q d x → Built D S d x × Keyed D e d x
  pub single : (c d : Der D.Rule) (x : ℕ) → Q c x → Q d x → c ≡ d
  pub offered : (r : D.Rule) (cs : Ders D.Rule) → Done (node r cs) → Keyed D e (node r cs) (D.concl r) → Served D Q (node r cs) (D.concl r)

-- the last rule has no premises.
abbrev pub First : {A : Algebra} (D : System A) → Der D.Rule → Type 0
First D (node r cs) = (D.prems r ≡ []) × (cs ≡ none)

abbrev pub Begun : {A : Algebra} (D : System A) → (ℕ → A.Exact) → (S Q : Der D.Rule → ℕ → Type 0) → Type 0
Begun D e S Q = Beginning D e S Q (First D)

-- a turn settles the least entry, s at x, and offers what is in Done: S and Q before the turn, S' and Q' now.
pub record Turning {A : Algebra} (D : System A) (e : ℕ → A.Exact) (S Q S' Q' : Der D.Rule → ℕ → Type 0) (s : Der D.Rule) (x : ℕ) (Done : Der D.Rule → Type 0) : Type 0 where
  pub taken : Least D e Q s x
  -- the settled ones stay, with s at x and no other
  pub stays : (d : Der D.Rule) (y : ℕ) → S d y → S' d y
  pub settles : S' s x
  pub no_other : (d : Der D.Rule) (y : ℕ) → S' d y → S d y ⊎ ((d ≡ s) × (y ≡ x))
  -- an entry was there, or is made by a rule with x among its premises; none is of a settled item, and each item has one at most
  pub agenda : (d : Der D.Rule) (y : ℕ) → Q' d y → Q d y ⊎ (Built D S' d y × Uses D x d × Keyed D e d y)
  pub fresh : (c d : Der D.Rule) (y : ℕ) → S' c y → Q' d y → ⊥
  pub single : (c d : Der D.Rule) (y : ℕ) → Q' c y → Q' d y → c ≡ d
  -- the entries of other items stay or are replaced by no worse ones
  pub kept : (d : Der D.Rule) (y : ℕ) → Q d y → (y ≡ x) ⊎ Served D Q' d y
  -- what was offered for an item that is not settled was taken, or there was as good
  pub offered : (r : D.Rule) (cs : Ders D.Rule) → Done (node r cs) → Keyed D e (node r cs) (D.concl r) → Item S' (D.concl r) ⊎ Served D Q' (node r cs) (D.concl r)

-- what a turn has to offer: what rules with x among their settled premises give.
abbrev pub Due : {A : Algebra} (D : System A) → (Der D.Rule → ℕ → Type 0) → ℕ → Der D.Rule → Type 0
Due D S x (node r cs) = Each S cs (D.prems r) × Among x (D.prems r)

abbrev pub Turned : {A : Algebra} (D : System A) → (ℕ → A.Exact) → (S Q S' Q' : Der D.Rule → ℕ → Type 0) → Der D.Rule → ℕ → Type 0
Turned D e S Q S' Q' s x = Turning D e S Q S' Q' s x (Due D S' x)

-- c was offered for y: Q is the agenda before it, Q' after it.
pub record Offered {A : Algebra} (D : System A) (S Q Q' : Der D.Rule → ℕ → Type 0) (c : Der D.Rule) (y : ℕ) : Type 0 where
  pub served : Item S y ⊎ Served D Q' c y
  pub kept : (d : Der D.Rule) (z : ℕ) → Q d z → Served D Q' d z
  pub only : (d : Der D.Rule) (z : ℕ) → Q' d z → Q d z ⊎ ((d ≡ c) × (z ≡ y) × (Item S y → ⊥))
  pub single : (b d : Der D.Rule) (z : ℕ) → Q' b z → Q' d z → b ≡ d

-- ---- a chart: each item is absent, queued or settled, and Rec d x says that d is recorded for x

pub data Stage : Type 0 where
  is_absent : Stage
  is_queued : Stage
  is_settled : Stage

abbrev pub Settled : {R : Type 0} → (ℕ → Stage) → (Der R → ℕ → Type 0) → Der R → ℕ → Type 0
Settled st Rec d x = (st x ≡ is_settled) × Rec d x

abbrev pub Queued : {R : Type 0} → (ℕ → Stage) → (Der R → ℕ → Type 0) → Der R → ℕ → Type 0
Queued st Rec d x = (st x ≡ is_queued) × Rec d x

-- an item that is not absent has one record at most.
abbrev pub Single : {R : Type 0} → (ℕ → Stage) → (Der R → ℕ → Type 0) → Type 0
Single {R} st Rec = (c d : Der R) (x : ℕ) → (st x ≢ is_absent) → Rec c x → Rec d x → c ≡ d

-- records of items that are not absent and not left out are the same in both.
pub record Same {R : Type 0} (st : ℕ → Stage) (Rec Rec' : Der R → ℕ → Type 0) (Out : ℕ → Type 0) : Type 0 where
  pub to : (d : Der R) (z : ℕ) → (st z ≢ is_absent) → (Out z → ⊥) → Rec d z → Rec' d z
  pub from : (d : Der R) (z : ℕ) → (st z ≢ is_absent) → (Out z → ⊥) → Rec' d z → Rec d z
