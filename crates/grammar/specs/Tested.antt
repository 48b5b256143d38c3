-- Well-formedness as a test, which a held grammar keeps true. It is proved to say what WellFormed says.
--   formed g   the test of a whole grammar
use Rattle.std.specs.Prelude.{ℕ, Bool, ltb, List, [], ◌∷◌, length, ◌==◌, nat_le, nat_lt}
use Rattle.grammar.specs.declared.symbol.Symbol.TheVariants as symbol
use Rattle.grammar.specs.Limits.{most_categories, most_productions, most_symbols, most_dimension, most_arity, weights, tokens}
use Rattle.grammar.specs.Grammars.{Symbol, ProductionModel, GrammarModel, dimension}
use Rattle.grammar.specs.Checks.{all, names_all, part_fits}

-- all of these
abbrev pub holds : List Bool → Bool
holds bs = all (λ b. b) bs

abbrev pub dimension_tests : ℕ → List Bool
dimension_tests d = nat_le 1 d ∷ nat_le d most_dimension ∷ []

abbrev pub dimension_formed : ℕ → Bool
dimension_formed d = holds (dimension_tests d)

abbrev pub symbol_formed : List ℕ → List ℕ → Symbol → Bool
symbol_formed dimensions arguments (symbol.Token t) = nat_lt t tokens
symbol_formed dimensions arguments (symbol.Part k l) = part_fits dimensions arguments k l

abbrev pub constituent_tests : List ℕ → List ℕ → List Symbol → List Bool
constituent_tests dimensions arguments symbols =
    nat_le 1 (length symbols) ∷ nat_le (length symbols) most_symbols ∷ all (symbol_formed dimensions arguments) symbols ∷ []

abbrev pub constituent_formed : List ℕ → List ℕ → List Symbol → Bool
constituent_formed dimensions arguments symbols = holds (constituent_tests dimensions arguments symbols)

abbrev pub production_tests : List ℕ → ProductionModel → List Bool
production_tests dimensions r =
    nat_lt r.category (length dimensions)
    ∷ nat_le 1 r.weight
    ∷ nat_lt r.weight weights
    ∷ nat_le (length r.arguments) most_arity
    ∷ all (λ a. ltb a (length dimensions)) r.arguments
    ∷ (length r.constituents == dimension dimensions r.category)
    ∷ all (constituent_formed dimensions r.arguments) r.constituents
    ∷ names_all dimensions r.arguments r.constituents
    ∷ []

abbrev pub production_formed : List ℕ → ProductionModel → Bool
production_formed dimensions r = holds (production_tests dimensions r)

abbrev pub grammar_tests : GrammarModel → List Bool
grammar_tests g =
    nat_lt g.kind 256
    ∷ nat_le 1 (length g.dimensions)
    ∷ nat_le (length g.dimensions) most_categories
    ∷ all dimension_formed g.dimensions
    ∷ nat_lt g.start (length g.dimensions)
    ∷ (dimension g.dimensions g.start == 1)
    ∷ nat_le (length g.productions) most_productions
    ∷ all (production_formed g.dimensions) g.productions
    ∷ []

abbrev pub formed : GrammarModel → Bool
formed g = holds (grammar_tests g)
