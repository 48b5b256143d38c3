-- What holds of all trees. Assumes nothing.
--   TreeLaws   commands and trees go together, earlier is an order, yields grow
use Rattle.std.specs.Prelude.{◌≡◌, ℕ, ◌<◌, ◌≤◌, ◌⊎◌, List, ◌++◌, length}
use Rattle.grammar.specs.Limits.{most_productions}
use Rattle.grammar.specs.Grammars.{GrammarModel, dimension}
use Rattle.grammar.specs.Formed.{Each, WellFormed}
use Rattle.grammar.specs.Commands.{Bytes}
use Rattle.grammar.specs.Trees.{Tree, Forest, node, TreeIn, yield, yields, tokens_in, tokens_in_all, commands, command_bytes, numbers}
use Rattle.grammar.specs.Orders.{Earlier, Exchanged}

pub record TreeLaws : Type 0 where
  -- no tree's commands are a proper front of another's: whatever follows them, they say which tree it is and where they end
  pub decodes : (g : GrammarModel) (c d : ℕ) (t u : Tree) (rest more : List ℕ) → TreeIn g c t → TreeIn g d u
      → commands t ++ rest ≡ commands u ++ more → (t ≡ u) × (rest ≡ more)
  -- equal commands, equal trees
  pub one_tree : (g : GrammarModel) (c d : ℕ) (t u : Tree) → TreeIn g c t → TreeIn g d u → commands t ≡ commands u → t ≡ u
  -- the bytes of commands say which commands they are
  pub bytes_decode : (ps : List ℕ) → numbers (command_bytes ps) ≡ ps
  -- and a tree's are bytes, as its production numbers are below the most
  pub tree_numbers : (g : GrammarModel) (c : ℕ) (t : Tree) → WellFormed g → TreeIn g c t → Each (λ p. p < most_productions) (commands t)
  pub tree_bytes : (g : GrammarModel) (c : ℕ) (t : Tree) → WellFormed g → TreeIn g c t → Bytes (command_bytes (commands t))
  -- earlier is a strict order, and of two trees one is earlier or they are the same
  pub irreflexive : (t : Tree) → Earlier t t → ⊥
  pub transitive : (t u v : Tree) → Earlier t u → Earlier u v → Earlier t v
  pub total : (g : GrammarModel) (c d : ℕ) (t u : Tree) → TreeIn g c t → TreeIn g d u → (t ≡ u) ⊎ (Earlier t u ⊎ Earlier u t)
  -- an earlier tree in the place of a subtree makes an earlier tree
  pub exchange : (a b t u : Tree) → Earlier b a → Exchanged a b t u → Earlier u t
  -- and one of the same category
  pub exchange_in : (g : GrammarModel) (a b t u : Tree) → ((c : ℕ) → TreeIn g c a → TreeIn g c b) → Exchanged a b t u
      → (c : ℕ) → TreeIn g c t → TreeIn g c u
  -- a tree has one string for each constituent of its category
  pub many : (g : GrammarModel) (c : ℕ) (t : Tree) → WellFormed g → TreeIn g c t → length (yield g t) ≡ dimension g.dimensions c
  -- none of them is empty
  pub filled : (g : GrammarModel) (c : ℕ) (t : Tree) → WellFormed g → TreeIn g c t → Each (λ s. 1 ≤ length s) (yield g t)
  -- and a tree has at least the tokens of its arguments together
  pub grows : (g : GrammarModel) (c p : ℕ) (ts : Forest) → WellFormed g → TreeIn g c (node p ts)
      → tokens_in_all (yields g ts) ≤ tokens_in (yield g (node p ts))
