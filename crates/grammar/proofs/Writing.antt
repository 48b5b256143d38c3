-- The bytes of lists that are put together.
use Rattle.std.proofs.Common.{◌≡◌, ℕ, List, [], ◌∷◌, ◌++◌, sym, refl, ap, ◌∙◌, append_assoc}
use Rattle.grammar.specs.Grammars.{Symbol, ProductionModel}
use Rattle.grammar.specs.Encoding.{categories_bytes, symbol_bytes, symbols_bytes, constituents_bytes, production_bytes, productions_bytes}

pub categories_append : (xs ys : List ℕ) → categories_bytes (xs ++ ys) ≡ categories_bytes xs ++ categories_bytes ys
categories_append [] ys = refl
categories_append (x ∷ xs) ys = ap (λ u. 2 ∷ x ∷ u) (categories_append xs ys)

pub symbols_append : (xs ys : List Symbol) → symbols_bytes (xs ++ ys) ≡ symbols_bytes xs ++ symbols_bytes ys
symbols_append [] ys = refl
symbols_append (x ∷ xs) ys = ap (λ u. symbol_bytes x ++ u) (symbols_append xs ys) ∙ sym (append_assoc (symbol_bytes x) (symbols_bytes xs) (symbols_bytes ys))

pub constituents_append : (xs ys : List (List Symbol)) → constituents_bytes (xs ++ ys) ≡ constituents_bytes xs ++ constituents_bytes ys
constituents_append [] ys = refl
constituents_append (x ∷ xs) ys =
    ap (λ u. 5 ∷ (symbols_bytes x ++ u)) (constituents_append xs ys) ∙ ap (λ u. 5 ∷ u) (sym (append_assoc (symbols_bytes x) (constituents_bytes xs) (constituents_bytes ys)))

pub productions_append : (xs ys : List ProductionModel) → productions_bytes (xs ++ ys) ≡ productions_bytes xs ++ productions_bytes ys
productions_append [] ys = refl
productions_append (x ∷ xs) ys = ap (λ u. production_bytes x ++ u) (productions_append xs ys) ∙ sym (append_assoc (production_bytes x) (productions_bytes xs) (productions_bytes ys))
