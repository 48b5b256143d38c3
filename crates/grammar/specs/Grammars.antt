-- Weighted grammars, as lists. Assumes nothing.
--   Symbol            a token, or constituent l of argument k, both counted from 1 (the code's own type)
--   ProductionModel   a production: its category, weight number, arguments' categories, and one list of symbols for each constituent
--   GrammarModel      a grammar: its kind number, the dimension of each category, the start category, its productions
--   dimension ds c    how many constituents category c has, 0 where there is no such category
--   production g p    production number p of g
use Rattle.std.specs.Prelude.{ℕ, List, [], slice_index, slice_index_or}
pub use Rattle.grammar.specs.declared.symbol.Symbol.{Symbol}

pub record ProductionModel : Type 0 where
  pub category : ℕ
  pub weight : ℕ
  pub arguments : List ℕ
  pub constituents : List (List Symbol)

-- categories and productions are numbered from 0, in the order of their lists
pub record GrammarModel : Type 0 where
  pub kind : ℕ
  pub dimensions : List ℕ
  pub start : ℕ
  pub productions : List ProductionModel

abbrev pub dimension : List ℕ → ℕ → ℕ
dimension dimensions c = slice_index dimensions c

-- what stands past the end of the list of productions
abbrev pub no_production : ProductionModel
no_production = record { category = 0; weight = 0; arguments = []; constituents = [] }

abbrev pub production : GrammarModel → ℕ → ProductionModel
production g p = slice_index_or g.productions p no_production
