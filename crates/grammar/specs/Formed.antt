-- When a grammar is well formed and within the limits of a pack. Assumes nothing.
--   Each P xs, Some P xs   P holds of each entry of xs, of some entry
--   WellFormed g           every condition on a grammar, a field for each
use Rattle.std.specs.Prelude.{◌≡◌, ℕ, suc, ◌-◌, ◌<◌, ◌≤◌, ◌⊎◌, List, [], ◌∷◌, length, slice_index}
use Rattle.grammar.specs.declared.symbol.Symbol.TheVariants as symbol
use Rattle.grammar.specs.Limits.{most_categories, most_productions, most_symbols, most_dimension, most_arity, weights, tokens}
use Rattle.grammar.specs.Grammars.{Symbol, ProductionModel, GrammarModel, dimension}

abbrev pub Each : {X : Type 0} → (X → Type 0) → List X → Type 0
Each P [] = Unit {0}
Each P (x ∷ xs) = P x × Each P xs

abbrev pub Some : {X : Type 0} → (X → Type 0) → List X → Type 0
Some P [] = ⊥
Some P (x ∷ xs) = P x ⊎ Some P xs

-- a dimension is 1 or 2
pub record OneOrTwo (d : ℕ) : Type 0 where
  pub least : 1 ≤ d
  pub most : d ≤ most_dimension

-- the part k l is one that a production with these arguments has: argument k, and constituent l of it
pub record PartFormed (dimensions arguments : List ℕ) (k l : ℕ) : Type 0 where
  pub argument_least : 1 ≤ k
  pub argument_most : k ≤ length arguments
  pub constituent_least : 1 ≤ l
  pub constituent_most : l ≤ dimension dimensions (slice_index arguments (k - 1))

-- a token is a 16-bit number, a part is one that the production has
abbrev pub SymbolFormed : List ℕ → List ℕ → Symbol → Type 0
SymbolFormed dimensions arguments (symbol.Token t) = t < tokens
SymbolFormed dimensions arguments (symbol.Part k l) = PartFormed dimensions arguments k l

-- a constituent has 1 to 8 symbols
pub record ConstituentFormed (dimensions arguments : List ℕ) (symbols : List Symbol) : Type 0 where
  pub symbols_least : 1 ≤ length symbols
  pub symbols_most : length symbols ≤ most_symbols
  pub symbols_formed : Each (SymbolFormed dimensions arguments) symbols

-- some constituent has the symbol part k l
abbrev pub Named : ℕ → ℕ → List (List Symbol) → Type 0
Named k l constituents = Some (Some (λ s. s ≡ symbol.Part k l)) constituents

-- each constituent of each argument is named; the argument i and its constituent j are counted from 0 here
abbrev pub AllNamed : List ℕ → List ℕ → List (List Symbol) → Type 0
AllNamed dimensions arguments constituents =
    (i j : ℕ) → i < length arguments → j < dimension dimensions (slice_index arguments i) → Named (suc i) (suc j) constituents

pub record ProductionFormed (dimensions : List ℕ) (r : ProductionModel) : Type 0 where
  pub category_known : r.category < length dimensions
  pub weight_least : 1 ≤ r.weight
  pub weight_most : r.weight < weights
  pub arguments_most : length r.arguments ≤ most_arity
  pub arguments_known : Each (λ a. a < length dimensions) r.arguments
  pub constituents_many : length r.constituents ≡ dimension dimensions r.category
  pub constituents_formed : Each (ConstituentFormed dimensions r.arguments) r.constituents
  pub all_named : AllNamed dimensions r.arguments r.constituents

pub record WellFormed (g : GrammarModel) : Type 0 where
  pub kind_byte : g.kind < 256
  pub categories_least : 1 ≤ length g.dimensions
  pub categories_most : length g.dimensions ≤ most_categories
  pub dimensions_formed : Each OneOrTwo g.dimensions
  pub start_known : g.start < length g.dimensions
  pub start_single : dimension g.dimensions g.start ≡ 1
  pub productions_most : length g.productions ≤ most_productions
  pub productions_formed : Each (ProductionFormed g.dimensions) g.productions
