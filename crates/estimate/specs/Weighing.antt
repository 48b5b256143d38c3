-- The lightest weight of a category, over all yields. Assumes nothing.
--   categories m            how many categories there are
--   tree_weight A m t       the weight of the tree t in the exact weights A
--   Accepted A m            every production has a weight number that the kind takes
--   Lightest A m c w        w is the weight of the lightest tree of category c within the ceiling
--   Light A m c w           w is that weight, or none where no tree of c is within the ceiling
--   LightestRow A exact m   a row has that at each category
use Rattle.std.specs.Prelude.{◌≡◌, ℕ, ◌<◌, ◌≤◌, ◌⊎◌, List, length, slice_index_or}
use Rattle.weight.specs.Algebra.{Algebra, Le}
use Rattle.grammar.specs.Grammars.{GrammarModel, production}
use Rattle.grammar.specs.Trees.{Tree, TreeIn, weight}

abbrev pub categories : GrammarModel → ℕ
categories m = length m.dimensions

-- The weights of all productions of a tree, combined exactly.
abbrev pub tree_weight : (A : Algebra) → GrammarModel → Tree → A.Exact
tree_weight A m t = weight A.plus A.none A.taken m t

-- Every production has a weight number that the kind takes.
abbrev pub Accepted : Algebra → GrammarModel → Type 0
Accepted A m = (p : ℕ) → p < length m.productions → A.least ≤ (production m p).weight

-- w is the weight of the lightest tree of category c within the ceiling.
pub record Lightest (A : Algebra) (m : GrammarModel) (c : ℕ) (w : A.Exact) : Type 0 where
  pub within : Le A w A.ceiling
  pub some : (t : Tree) × TreeIn m c t × (tree_weight A m t ≡ w)
  pub least : (t : Tree) → TreeIn m c t → Le A w (tree_weight A m t)

-- No tree of category c is within the ceiling.
abbrev pub Unproductive : (A : Algebra) → GrammarModel → ℕ → Type 0
Unproductive A m c = (t : Tree) → TreeIn m c t → A.lt A.ceiling (tree_weight A m t)

-- w is the lightest weight of c, or none where no tree of c is within the ceiling.
abbrev pub Light : (A : Algebra) → GrammarModel → ℕ → A.Exact → Type 0
Light A m c w = Lightest A m c w ⊎ ((w ≡ A.none) × Unproductive A m c)

-- The row has at each category its lightest weight, or none.
abbrev pub LightestRow : (A : Algebra) {W : Type 0} → (W → A.Exact) → GrammarModel → List W → Type 0
LightestRow A {W} exact m row = (c : ℕ) (d : W) → c < categories m → Light A m c (exact (slice_index_or row c d))
