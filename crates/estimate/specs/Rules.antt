-- Rules that give a category from others at a price, as a search goes over them. Assumes nothing.
--   premises_of p            the premises as a list
--   Inside A exact n r       a rule over the items below n, whose price is above none
--   system A exact n gives   the deduction system of the rules that gives relates to the numbers below n
use Rattle.std.specs.Prelude.{ℕ, ◌<◌, List, [], Some, Option}
use Rattle.arrayvec.specs.ArrayVec.{ArrayVec}
use Rattle.weight.specs.Algebra.{Algebra}
use Rattle.grammar.specs.Formed.{Each}
use Rattle.deduction.specs.Deduction.{System}
use Rattle.estimate.specs.declared.rules.Rule.{Rule}

abbrev pub premises_of : ArrayVec ℕ → List ℕ
premises_of p = p.items

-- Its items are below n, and its price is above none.
pub record Inside (A : Algebra) {W : Type 0} (exact : W → A.Exact) (n : ℕ) (r : Rule W) : Type 0 where
  pub result : r.result < n
  pub premises : Each (λ p. p < n) (premises_of r.premises)
  pub priced : A.lt A.none (exact r.price)

-- A rule under its number.
abbrev pub Numbered : {W : Type 0} → ℕ → (ℕ → Option (Rule W) → Type 0) → Type 0
Numbered {W} n gives = (k : ℕ) × (r : Rule W) × (k < n) × gives k (Some r)

-- The rules under the numbers below n, without letters.
abbrev pub system : (A : Algebra) {W : Type 0} → (W → A.Exact) → ℕ → (ℕ → Option (Rule W) → Type 0) → System A
system A {W} exact n gives = record {
  Rule = Numbered n gives;
  concl = λ r. r.1.result;
  prems = λ r. premises_of r.1.premises;
  price = λ r. exact r.1.price;
  letters = λ r. [];
}
