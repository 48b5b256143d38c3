-- What several changes to a table leave. Assumes nothing.
use Rattle.std.proofs.Common.{◌≡◌, ℕ, List, length, ◌∙◌, subst}
use Rattle.std.specs.List.Sorted.{IsPermutation}
use Rattle.std.specs.declared.cmp.Ord as Ord
use Rattle.std.specs.declared.cmp.PartialEq as PartialEq
use Rattle.std.specs.declared.cmp.PartialOrd as PartialOrd
use Rattle.agenda.specs.declared.entry.Slotted as Slotted
use Rattle.agenda.specs.declared.cells.Cell.{Cell}
use Rattle.agenda.specs.declared.table.Table.{Table}
use Rattle.agenda.specs.Tables.{listed, Stays}
use Rattle.agenda.proofs.Parts.{held_length, untouched_then}

module _ {X : Type 0} {slotted : Slotted.Ghosts X} {ord : Ord.Ghosts X} {eq : PartialEq.Ghosts X} {partial : PartialOrd.Ghosts X} where
  pub listed_length : (t : Table X slotted ord eq partial) → length (listed t) ≡ t.len
  listed_length t = held_length t.cells.now t.len t.within

  pub stays_then : (a b c : Table X slotted ord eq partial) → IsPermutation (listed a) (listed b) → Stays a b → Stays b c → Stays a c
  stays_then a b c s one two = record {
    len = two.len ∙ one.len;
    lies = record {
      named = two.lies.named ∙ one.lies.named;
      room = two.lies.room ∙ one.lies.room;
      untouched = untouched_then slotted.index (listed a) (listed b) a.cells.now b.cells.now c.cells.now s one.lies.untouched two.lies.untouched;
    };
  }

-- what holds of a table before and after, of the agenda whose cells it was lent
pub turned : {X : Type 0} (P : List (Cell X) → ℕ → List (Cell X) → ℕ → Type 0) (c : List (Cell X)) (n : ℕ) (c' : List (Cell X)) (n' : ℕ) {d d' : List (Cell X)} {m m' : ℕ} → d ≡ c → m ≡ n → d' ≡ c' → m' ≡ n' → P d m d' m' → P c n c' n'
turned P c n c' n' {d} {d'} {m} {m'} p q r s h = subst (λ z. P z n c' n') p (subst (λ z. P d z c' n') q (subst (λ z. P d m z n') r (subst (λ z. P d m d' z) s h)))
