-- The pack of a well-formed grammar is bytes.
use Rattle.std.proofs.Common.{ℕ, ◌-◌, ◌/◌, ◌%◌, ◌<◌, ◌≤◌, List, [], ◌∷◌, ◌++◌, length, get_or, arith}
use Rattle.grammar.specs.declared.symbol.Symbol.TheVariants as symbol
use Rattle.grammar.specs.Grammars.{Symbol, ProductionModel, GrammarModel}
use Rattle.grammar.specs.Formed.{Each, OneOrTwo, SymbolFormed, ConstituentFormed, ProductionFormed, WellFormed}
use Rattle.grammar.specs.Encoding.{categories_bytes, symbol_bytes, symbols_bytes, constituents_bytes, arguments_bytes, production_bytes, productions_bytes, encode}
use Rattle.grammar.specs.Commands.{Bytes}
use Rattle.grammar.proofs.Each.{each_append, each_at}

abbrev Byte : ℕ → Type 0
Byte b = b < 256

high_byte : (w : ℕ) → w < 65536 → w / 256 < 256
high_byte w h = omega arith

low_byte : (w : ℕ) → w % 256 < 256
low_byte w = omega arith

categories_range : (ds : List ℕ) → Each OneOrTwo ds → Bytes (categories_bytes ds)
categories_range [] h = tt
categories_range (d ∷ ds) h = (omega arith, (omega (arith, h.0.most), categories_range ds h.1))

module _ (dimensions : List ℕ) (formed : Each OneOrTwo dimensions) (some : length dimensions ≤ 32) where
  module _ (arguments : List ℕ) (known : Each (λ a. a < length dimensions) arguments) (most : length arguments ≤ 3) where
    symbol_range : (s : Symbol) → SymbolFormed dimensions arguments s → Bytes (symbol_bytes s)
    symbol_range (symbol.Token t) h = (omega arith, (high_byte t h, (low_byte t, tt)))
    symbol_range (symbol.Part k l) h =
        let a = each_at (λ a. a < length dimensions) arguments (k - 1) 0 known (omega (arith, h.argument_least, h.argument_most)) in
        let d = each_at OneOrTwo dimensions (get_or arguments (k - 1) 0) 0 formed a in
        (omega arith, (omega (arith, h.argument_most), (omega (arith, h.constituent_most, d.most), tt)))

    symbols_range : (ss : List Symbol) → Each (SymbolFormed dimensions arguments) ss → Bytes (symbols_bytes ss)
    symbols_range [] h = tt
    symbols_range (s ∷ ss) h = each_append Byte (symbol_bytes s) (symbols_bytes ss) (symbol_range s h.0) (symbols_range ss h.1)

    constituents_range : (cs : List (List Symbol)) → Each (ConstituentFormed dimensions arguments) cs → Bytes (constituents_bytes cs)
    constituents_range [] h = tt
    constituents_range (c ∷ cs) h =
        (omega arith, each_append Byte (symbols_bytes c) (constituents_bytes cs) (symbols_range c h.0.symbols_formed) (constituents_range cs h.1))

  arguments_range : (arguments : List ℕ) → Each (λ a. a < length dimensions) arguments → length arguments ≤ 3 → Bytes (arguments_bytes arguments)
  arguments_range [] h l = (omega arith, (omega arith, (omega arith, tt)))
  arguments_range (x ∷ []) h l = (omega (arith, h.0), (omega arith, (omega arith, tt)))
  arguments_range (x ∷ y ∷ []) h l = (omega (arith, h.0), (omega (arith, h.1.0), (omega arith, tt)))
  arguments_range (x ∷ y ∷ z ∷ []) h l = (omega (arith, h.0), (omega (arith, h.1.0), (omega (arith, h.1.1.0), tt)))
  arguments_range (x ∷ y ∷ z ∷ u ∷ us) h l = absurd (omega arith)

  production_range : (r : ProductionModel) → ProductionFormed dimensions r → Bytes (production_bytes r)
  production_range r h = (
    omega arith,
    (
      omega (arith, h.category_known),
      (
        high_byte r.weight h.weight_most,
        (
          low_byte r.weight,
          (
            omega (arith, h.arguments_most),
            each_append Byte (arguments_bytes r.arguments) (constituents_bytes r.constituents) (arguments_range r.arguments h.arguments_known h.arguments_most)
                (constituents_range r.arguments h.arguments_known h.arguments_most r.constituents h.constituents_formed),
          ),
        ),
      ),
    ),
  )

  productions_range : (rs : List ProductionModel) → Each (ProductionFormed dimensions) rs → Bytes (productions_bytes rs)
  productions_range [] h = tt
  productions_range (r ∷ rs) h = each_append Byte (production_bytes r) (productions_bytes rs) (production_range r h.0) (productions_range rs h.1)

pub packs_are_bytes : (g : GrammarModel) → WellFormed g → Bytes (encode g)
packs_are_bytes g f = (
  omega arith,
  (
    f.kind_byte,
    each_append Byte (categories_bytes g.dimensions) (3 ∷ g.start ∷ (productions_bytes g.productions ++ 8 ∷ []))
        (categories_range g.dimensions f.dimensions_formed) (
          omega arith,
          (
            omega (arith, f.start_known, f.categories_most),
            each_append Byte (productions_bytes g.productions) (8 ∷ [])
                (productions_range g.dimensions f.dimensions_formed f.categories_most g.productions f.productions_formed) (omega arith, tt),
          ),
        ),
  ),
)
