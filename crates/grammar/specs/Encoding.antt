-- The pack of a grammar, as bytes. Assumes nothing.
--   encode g   the one pack that g is written as
use Rattle.std.specs.Prelude.{ℕ, ◌/◌, ◌%◌, List, [], ◌∷◌, ◌++◌, length, take}
use Rattle.grammar.specs.declared.symbol.Symbol.TheVariants as symbol
use Rattle.grammar.specs.Limits.{most_arity, unused}
use Rattle.grammar.specs.Grammars.{Symbol, ProductionModel, GrammarModel}

-- 02h CATEGORY and its dimension
abbrev pub categories_bytes : List ℕ → List ℕ
categories_bytes [] = []
categories_bytes (d ∷ ds) = 2 ∷ d ∷ categories_bytes ds

-- 06h TOKEN and the token in two bytes, the high one first; 07h PART, k and l
abbrev pub symbol_bytes : Symbol → List ℕ
symbol_bytes (symbol.Token t) = 6 ∷ t / 256 ∷ t % 256 ∷ []
symbol_bytes (symbol.Part k l) = 7 ∷ k ∷ l ∷ []

abbrev pub symbols_bytes : List Symbol → List ℕ
symbols_bytes [] = []
symbols_bytes (s ∷ ss) = symbol_bytes s ++ symbols_bytes ss

-- 05h CONSTITUENT and its symbols
abbrev pub constituents_bytes : List (List Symbol) → List ℕ
constituents_bytes [] = []
constituents_bytes (c ∷ cs) = 5 ∷ (symbols_bytes c ++ constituents_bytes cs)

-- three bytes, and 255 for each argument that is not there
abbrev pub arguments_bytes : List ℕ → List ℕ
arguments_bytes arguments = take most_arity (arguments ++ unused ∷ unused ∷ unused ∷ [])

-- 04h PRODUCTION, category, weight in two bytes, arity, three arguments; and its constituents
abbrev pub production_bytes : ProductionModel → List ℕ
production_bytes r =
    4 ∷ r.category ∷ r.weight / 256 ∷ r.weight % 256 ∷ length r.arguments ∷ (arguments_bytes r.arguments ++ constituents_bytes r.constituents)

abbrev pub productions_bytes : List ProductionModel → List ℕ
productions_bytes [] = []
productions_bytes (r ∷ rs) = production_bytes r ++ productions_bytes rs

-- 01h KIND, the categories, 03h START, the productions, 08h END
abbrev pub encode : GrammarModel → List ℕ
encode g = 1 ∷ g.kind ∷ (categories_bytes g.dimensions ++ 3 ∷ g.start ∷ (productions_bytes g.productions ++ 8 ∷ []))
