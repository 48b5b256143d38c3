-- The test of well-formedness says what it should.
use Rattle.std.proofs.Common.{◌≡◌, ℕ, ◌-◌, ◌<◌, Bool, true, ltb, leb, List, length, get_or}
use Rattle.std.proofs.lemmas.Bool.{and_from, ltb-true, leb-true, eqb-true, lt-ltb, le-leb, eq-eqb}
use Rattle.grammar.specs.declared.symbol.Symbol.TheVariants as symbol
use Rattle.grammar.specs.Grammars.{Symbol, ProductionModel, GrammarModel, dimension}
use Rattle.grammar.specs.Formed.{Each, OneOrTwo, PartFormed, SymbolFormed, ConstituentFormed, ProductionFormed, WellFormed}
use Rattle.grammar.specs.Checks.{part_fits}
use Rattle.grammar.specs.Tested.{holds, dimension_tests, dimension_formed, symbol_formed, constituent_tests, constituent_formed, production_tests, production_formed, grammar_tests, formed}
use Rattle.grammar.proofs.Tests.{and_both, all_is, is_all}
use Rattle.grammar.proofs.Naming.{names_are, are_names}

abbrev Met : List Bool → Type 0
Met bs = Each (λ b. b ≡ true) bs

holds_is : (bs : List Bool) → holds bs ≡ true → Met bs
holds_is = all_is (λ b. b) (λ b. b ≡ true) (λ b e. e)

is_holds : (bs : List Bool) → Met bs → holds bs ≡ true
is_holds = is_all (λ b. b) (λ b. b ≡ true) (λ b e. e)

dimension_is : (d : ℕ) → dimension_formed d ≡ true → OneOrTwo d
dimension_is d e = let h = holds_is (dimension_tests d) e in record { least = leb-true _ _ h.0; most = leb-true _ _ h.1.0 }

is_dimension : (d : ℕ) → OneOrTwo d → dimension_formed d ≡ true
is_dimension d h = is_holds (dimension_tests d) (le-leb _ _ h.least, (le-leb _ _ h.most, tt))

module _ (dimensions arguments : List ℕ) where
  pub part_is : (k l : ℕ) → part_fits dimensions arguments k l ≡ true → PartFormed dimensions arguments k l
  part_is k l e =
      let a = and_both (leb 1 k) _ e in
      let b = and_both (leb k (length arguments)) _ a.1 in
      let c = and_both (leb 1 l) _ b.1 in
      record {
        argument_least = leb-true 1 k a.0;
        argument_most = leb-true k (length arguments) b.0;
        constituent_least = leb-true 1 l c.0;
        constituent_most = leb-true l (dimension dimensions (get_or arguments (k - 1) 0)) c.1;
      }

  pub is_part : (k l : ℕ) → PartFormed dimensions arguments k l → part_fits dimensions arguments k l ≡ true
  is_part k l f =
      and_from (leb 1 k) _ (le-leb 1 k f.argument_least)
      (and_from (leb k (length arguments)) _ (le-leb k (length arguments) f.argument_most)
      (and_from (leb 1 l) _ (le-leb 1 l f.constituent_least) (le-leb l (dimension dimensions (get_or arguments (k - 1) 0)) f.constituent_most)))

  symbol_is : (s : Symbol) → symbol_formed dimensions arguments s ≡ true → SymbolFormed dimensions arguments s
  symbol_is (symbol.Token t) e = ltb-true _ _ e
  symbol_is (symbol.Part k l) e = part_is k l e

  is_symbol : (s : Symbol) → SymbolFormed dimensions arguments s → symbol_formed dimensions arguments s ≡ true
  is_symbol (symbol.Token t) h = lt-ltb _ _ h
  is_symbol (symbol.Part k l) h = is_part k l h

  constituent_is : (ss : List Symbol) → constituent_formed dimensions arguments ss ≡ true → ConstituentFormed dimensions arguments ss
  constituent_is ss e =
      let h = holds_is (constituent_tests dimensions arguments ss) e in
      record {
        symbols_least = leb-true _ _ h.0;
        symbols_most = leb-true _ _ h.1.0;
        symbols_formed = all_is (symbol_formed dimensions arguments) (SymbolFormed dimensions arguments) symbol_is ss h.1.1.0;
      }

  is_constituent : (ss : List Symbol) → ConstituentFormed dimensions arguments ss → constituent_formed dimensions arguments ss ≡ true
  is_constituent ss h =
      is_holds (constituent_tests dimensions arguments ss) (
        le-leb _ _ h.symbols_least,
        (le-leb _ _ h.symbols_most, (is_all (symbol_formed dimensions arguments) (SymbolFormed dimensions arguments) is_symbol ss h.symbols_formed, tt)),
      )

module _ (dimensions : List ℕ) where
  abbrev Known : ℕ → Type 0
  Known a = a < length dimensions

  production_is : (r : ProductionModel) → production_formed dimensions r ≡ true → ProductionFormed dimensions r
  production_is r e =
      let h = holds_is (production_tests dimensions r) e in
      record {
        category_known = ltb-true _ _ h.0;
        weight_least = leb-true _ _ h.1.0;
        weight_most = ltb-true _ _ h.1.1.0;
        arguments_most = leb-true _ _ h.1.1.1.0;
        arguments_known = all_is (λ a. ltb a (length dimensions)) Known (λ a. ltb-true a (length dimensions)) r.arguments h.1.1.1.1.0;
        constituents_many = eqb-true _ _ h.1.1.1.1.1.0;
        constituents_formed = all_is _ (ConstituentFormed dimensions r.arguments) (constituent_is dimensions r.arguments) r.constituents h.1.1.1.1.1.1.0;
        all_named = names_are dimensions r.arguments r.constituents h.1.1.1.1.1.1.1.0;
      }

  is_production : (r : ProductionModel) → ProductionFormed dimensions r → production_formed dimensions r ≡ true
  is_production r h =
      is_holds (production_tests dimensions r) (
        lt-ltb _ _ h.category_known,
        (
          le-leb _ _ h.weight_least,
          (
            lt-ltb _ _ h.weight_most,
            (
              le-leb _ _ h.arguments_most,
              (
                is_all (λ a. ltb a (length dimensions)) Known (λ a. lt-ltb a (length dimensions)) r.arguments h.arguments_known,
                (
                  eq-eqb _ _ h.constituents_many,
                  (
                    is_all _ (ConstituentFormed dimensions r.arguments) (is_constituent dimensions r.arguments) r.constituents h.constituents_formed,
                    (are_names dimensions r.arguments r.constituents h.all_named, tt),
                  ),
                ),
              ),
            ),
          ),
        ),
      )

pub formed_is : (g : GrammarModel) → formed g ≡ true → WellFormed g
formed_is g e =
    let h = holds_is (grammar_tests g) e in
    record {
      kind_byte = ltb-true _ _ h.0;
      categories_least = leb-true _ _ h.1.0;
      categories_most = leb-true _ _ h.1.1.0;
      dimensions_formed = all_is dimension_formed OneOrTwo dimension_is g.dimensions h.1.1.1.0;
      start_known = ltb-true _ _ h.1.1.1.1.0;
      start_single = eqb-true _ _ h.1.1.1.1.1.0;
      productions_most = leb-true _ _ h.1.1.1.1.1.1.0;
      productions_formed = all_is _ (ProductionFormed g.dimensions) (production_is g.dimensions) g.productions h.1.1.1.1.1.1.1.0;
    }

pub is_formed : (g : GrammarModel) → WellFormed g → formed g ≡ true
is_formed g h =
    is_holds (grammar_tests g) (
      lt-ltb _ _ h.kind_byte,
      (
        le-leb _ _ h.categories_least,
        (
          le-leb _ _ h.categories_most,
          (
            is_all dimension_formed OneOrTwo is_dimension g.dimensions h.dimensions_formed,
            (
              lt-ltb _ _ h.start_known,
              (
                eq-eqb _ _ h.start_single,
                (
                  le-leb _ _ h.productions_most,
                  (is_all _ (ProductionFormed g.dimensions) (is_production g.dimensions) g.productions h.productions_formed, tt),
                ),
              ),
            ),
          ),
        ),
      ),
    )
