-- The test of naming says what it should.
use Rattle.std.proofs.Common.{◌≡◌, ℕ, suc, true, eqb, List, length, get_or, refl, ap, ◌∙◌, ap₂}
use mathlib.Core.Bool.{false≢true}
use Rattle.std.proofs.lemmas.Bool.{and_from, eqb-true, eq-eqb}
use Rattle.grammar.specs.declared.symbol.Symbol.TheVariants as symbol
use Rattle.grammar.specs.Grammars.{Symbol, dimension}
use Rattle.grammar.specs.Formed.{Some, Named, AllNamed}
use Rattle.grammar.specs.Checks.{any, is_part, named, names_all}
use Rattle.grammar.proofs.Tests.{and_both, any_is, is_any, below_is, is_below}

part_is : (k l : ℕ) (s : Symbol) → is_part k l s ≡ true → s ≡ symbol.Part k l
part_is k l (symbol.Token t) e = absurd (false≢true e)
part_is k l (symbol.Part i j) e =
    let h = and_both (eqb i k) (eqb j l) e in
    ap₂ symbol.Part (eqb-true i k h.0) (eqb-true j l h.1)

is_part_of : (k l : ℕ) (s : Symbol) → s ≡ symbol.Part k l → is_part k l s ≡ true
is_part_of k l s e = ap (is_part k l) e ∙ and_from (eqb k k) (eqb l l) (eq-eqb k k refl) (eq-eqb l l refl)

module _ (k l : ℕ) where
  abbrev Is : Symbol → Type 0
  Is s = s ≡ symbol.Part k l

  named_is : (cs : List (List Symbol)) → named k l cs ≡ true → Named k l cs
  named_is cs e = any_is (any (is_part k l)) (Some Is) (any_is (is_part k l) Is (part_is k l)) cs e

  is_named : (cs : List (List Symbol)) → Named k l cs → named k l cs ≡ true
  is_named cs h = is_any (any (is_part k l)) (Some Is) (is_any (is_part k l) Is (is_part_of k l)) cs h

pub names_are : (dimensions arguments : List ℕ) (cs : List (List Symbol)) → names_all dimensions arguments cs ≡ true → AllNamed dimensions arguments cs
names_are dimensions arguments cs e i j h l =
    named_is (suc i) (suc j) cs (below_is (dimension dimensions (get_or arguments i 0)) _ (below_is (length arguments) _ e i h) j l)

pub are_names : (dimensions arguments : List ℕ) (cs : List (List Symbol)) → AllNamed dimensions arguments cs → names_all dimensions arguments cs ≡ true
are_names dimensions arguments cs n =
    is_below (length arguments) _ (λ i h. is_below (dimension dimensions (get_or arguments i 0)) _ (λ j l. is_named (suc i) (suc j) cs (n i j h l)))
