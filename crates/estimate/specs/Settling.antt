-- The lightest weights and the lightest chains as functions of the grammar: as many times as there are categories, settle the cheapest that a rule gives. Assumes nothing.
--   cost_at es x             what x was settled at
--   settled A n rule t es    t times the cheapest settled that the rules below n give
--   listed xs                a list as premises
--   light A m c              the lightest weight of c, if there is one
--   category_weight A m c    the lightest chain from the start to c, or the ceiling; category_own is the value that holds it
use Rattle.std.specs.Prelude.{ℕ, zero, suc, ◌*◌, ◌/◌, ◌%◌, cond, List, [], ◌∷◌, length, Some, None, Option, ◌==◌, nat_lt, slice_index}
use Rattle.std.proofs.Common.{inl, inr}
use Rattle.arrayvec.specs.ArrayVec.{ArrayVec}
use Rattle.weight.specs.Algebra.{Algebra}
use Rattle.grammar.specs.Grammars.{GrammarModel, production}
use Rattle.deduction.specs.Deduction.{but}
use Rattle.estimate.specs.declared.entry.Entry.{Entry}
use Rattle.estimate.specs.declared.rules.Rule.{Rule}
use Rattle.estimate.specs.Entries.{cheaper}
use Rattle.estimate.specs.Rules.{premises_of}
use Rattle.estimate.specs.Weighing.{categories}
use Rattle.estimate.specs.Chains.{way}

-- What an item was settled at.
abbrev pub cost_at : {E : Type 0} → List (Entry E) → ℕ → Option E
cost_at [] x = None
cost_at (e ∷ es) x = cond (x == e.category) (Some e.cost) (cost_at es x)

-- Two weights combined, if there are both.
abbrev pub both : (A : Algebra) → Option A.Exact → Option A.Exact → Option A.Exact
both A None o = None
both A (Some a) None = None
both A (Some a) (Some b) = Some (A.plus a b)

-- What f has for some items together, if it has something for each.
abbrev pub all_of : (A : Algebra) → (ℕ → Option A.Exact) → List ℕ → Option A.Exact
all_of A f [] = Some A.none
all_of A f (x ∷ xs) = both A (f x) (all_of A f xs)

-- The cheaper of two entries, if there are any.
abbrev pub first : (A : Algebra) → (o p : Option (Entry A.Exact)) → Option (Entry A.Exact)
first A None p = p
first A (Some e) None = Some e
first A (Some e) (Some f) = cond (cheaper A (λ v. v) f e) (Some f) (Some e)

module _ (A : Algebra) (n : ℕ) (rule : ℕ → Option (Rule A.Exact)) where
  -- What a rule gives from what is settled, for an item that is not.
  abbrev pub offer_of : List (Entry A.Exact) → Option (Rule A.Exact) → Option (Entry A.Exact)
  offer_of es None = None
  offer_of es (Some r) = elim (cost_at es r.result) [
    | Some _ ↦ None
    | None ↦ elim (both A (Some r.price) (all_of A (cost_at es) (premises_of r.premises))) [ None ↦ None | Some w ↦ Some (record { cost = w; category = r.result }) ]
  ]

  -- The cheapest that the rules below k give.
  abbrev pub cheapest : List (Entry A.Exact) → ℕ → Option (Entry A.Exact)
  cheapest es zero = None
  cheapest es (suc k) = first A (cheapest es k) (offer_of es (rule k))

  -- t times the cheapest is settled.
  abbrev pub settled : ℕ → List (Entry A.Exact) → List (Entry A.Exact)
  settled zero es = es
  settled (suc t) es = elim (cheapest es n) [ None ↦ es | Some e ↦ settled t (e ∷ es) ]

-- A list as premises.
abbrev pub listed : List ℕ → ArrayVec ℕ
listed xs = record { items = xs }

-- Production p as a rule: it gives its category from its arguments.
abbrev pub tree_rule : (A : Algebra) → GrammarModel → ℕ → Option (Rule A.Exact)
tree_rule A m p =
    Some (record { result = (production m p).category; premises = listed (production m p).arguments; price = A.taken (production m p).weight })

-- w, if it is within the ceiling.
abbrev pub within : (A : Algebra) → A.Exact → Option A.Exact
within A w = elim (A.order w A.ceiling) [ inl _ ↦ Some w | inr o ↦ elim o [ inl _ ↦ Some w | inr _ ↦ None ] ]

-- The lightest weight of category c, if there is one.
unfoldable pub light : (A : Algebra) → GrammarModel → ℕ → Option A.Exact
light A m c = elim (cost_at (settled A (length m.productions) (tree_rule A m) (categories m) []) c) [ None ↦ None | Some w ↦ within A w ]

-- The step of production p to its argument i, if there is one.
abbrev pub step_rule : (A : Algebra) → GrammarModel → (p i : ℕ) → Option (Rule A.Exact)
step_rule A m p i =
    let arguments = (production m p).arguments in
    cond (nat_lt i (length arguments))
    (cond (slice_index arguments i == m.start) None
    (elim (both A (Some (A.taken (production m p).weight)) (all_of A (light A m) (but i arguments))) [
      | None ↦ None
      | Some w ↦ Some (record { result = slice_index arguments i; premises = listed (way m (production m p).category); price = w })
    ]))
    None

abbrev pub chain_rule : (A : Algebra) → GrammarModel → ℕ → Option (Rule A.Exact)
chain_rule A m k = step_rule A m (k / 3) (k % 3)

-- w, or the ceiling where it is above that.
abbrev pub capped : (A : Algebra) → A.Exact → A.Exact
capped A w = elim (within A w) [ None ↦ A.ceiling | Some v ↦ v ]

-- The lightest chain from the start to c, or the ceiling where no chain is below it.
unfoldable pub category_weight : (A : Algebra) → GrammarModel → ℕ → A.Exact
category_weight A m c =
    cond (c == m.start) A.none
    (elim (cost_at (settled A (3 * length m.productions) (chain_rule A m) (categories m) []) c) [ None ↦ A.ceiling | Some w ↦ capped A w ])

-- The value that holds it, by the number that it shows.
abbrev pub category_own : (A : Algebra) {W : Type 0} → (ℕ → W) → GrammarModel → ℕ → W
category_own A showing m c = showing (A.shown (category_weight A m c))
