-- Trees over a grammar, and what is read off them. Assumes nothing.
--   TreeIn g c t       t is a tree of category c
--   yield g t          its token strings, one for each constituent
--   tokens_in y        how many tokens the strings y have together
--   commands t         its production numbers, the root's first
--   command_bytes ps   the commands of these productions as bytes
--   weight g t         the weights of all its productions combined
use Rattle.std.specs.Prelude.{◌≡◌, ℕ, ◌+◌, ◌-◌, ◌/◌, ◌%◌, ◌<◌, List, [], ◌∷◌, ◌++◌, map, length, slice_index_or}
use Rattle.grammar.specs.declared.symbol.Symbol.TheVariants as symbol
use Rattle.grammar.specs.Grammars.{Symbol, GrammarModel, production}
use Rattle.grammar.specs.Commands.{wide}

-- a production number with one tree for each argument, in order
mutual
  pub data Tree : Type 0 where
    node : ℕ → Forest → Tree

  pub data Forest : Type 0 where
    empty : Forest
    more : Tree → Forest → Forest

-- a tree of category c is a production of c and, for each argument in order, a tree of that argument's category
abbrev mutual
  pub TreeIn : GrammarModel → ℕ → Tree → Type 0
  TreeIn g c (node p ts) = (p < length g.productions) × ((production g p).category ≡ c) × TreesIn g (production g p).arguments ts

  pub TreesIn : GrammarModel → List ℕ → Forest → Type 0
  TreesIn g [] empty = Unit {0}
  TreesIn g (c ∷ cs) empty = ⊥
  TreesIn g [] (more t ts) = ⊥
  TreesIn g (c ∷ cs) (more t ts) = TreeIn g c t × TreesIn g cs ts

-- entry k of a list, counted from 1
abbrev pub counted : {X : Type 0} → List X → ℕ → X → X
counted xs k d = slice_index_or xs (k - 1) d

-- what a symbol gives, from the yields of the arguments: TOKEN its token, PART k l string l of argument k
abbrev pub piece : List (List (List ℕ)) → Symbol → List ℕ
piece ys (symbol.Token t) = t ∷ []
piece ys (symbol.Part k l) = counted (counted ys k []) l []

-- what a constituent gives
abbrev pub spell : List (List (List ℕ)) → List Symbol → List ℕ
spell ys [] = []
spell ys (s ∷ ss) = piece ys s ++ spell ys ss

-- one token string for each constituent
abbrev mutual
  pub yield : GrammarModel → Tree → List (List ℕ)
  yield g (node p ts) = map (spell (yields g ts)) (production g p).constituents

  pub yields : GrammarModel → Forest → List (List (List ℕ))
  yields g empty = []
  yields g (more t ts) = yield g t ∷ yields g ts

-- the tokens of one yield, and of several together
abbrev pub tokens_in : List (List ℕ) → ℕ
tokens_in [] = 0
tokens_in (s ∷ ss) = length s + tokens_in ss

abbrev pub tokens_in_all : List (List (List ℕ)) → ℕ
tokens_in_all [] = 0
tokens_in_all (y ∷ ys) = tokens_in y + tokens_in_all ys

-- the root's production and then those of each argument in order
abbrev mutual
  pub commands : Tree → List ℕ
  commands (node p ts) = p ∷ all_commands ts

  pub all_commands : Forest → List ℕ
  all_commands empty = []
  all_commands (more t ts) = commands t ++ all_commands ts

-- the command of a production is 10h and its number in two bytes, the high one first
abbrev pub command_byte : ℕ
command_byte = 0x10

abbrev pub command_bytes : List ℕ → List ℕ
command_bytes [] = []
command_bytes (p ∷ ps) = command_byte ∷ p / 256 ∷ p % 256 ∷ command_bytes ps

-- the production numbers that such bytes say
abbrev pub numbers : List ℕ → List ℕ
numbers [] = []
numbers (a ∷ []) = []
numbers (a ∷ b ∷ []) = []
numbers (a ∷ high ∷ low ∷ rest) = wide high low ∷ numbers rest

-- the weights of all its productions, each as often as it occurs, combined by plus from none on; weigh takes a weight number in
module _ {W : Type 0} (plus : W → W → W) (none : W) (weigh : ℕ → W) where
  abbrev mutual
    pub weight : GrammarModel → Tree → W
    weight g (node p ts) = plus (weigh (production g p).weight) (all_weight g ts)

    pub all_weight : GrammarModel → Forest → W
    all_weight g empty = none
    all_weight g (more t ts) = plus (weight g t) (all_weight g ts)
