-- The exact weights of odds: the numbers from 1 on, which multiply; at 0 a product would not rise. Assumes nothing.
use Rattle.std.specs.Prelude.{◌≡◌, ℕ, ◌*◌, ◌<◌, ◌≤◌, max, ◌⊎◌}
use mathlib.Core.HLevel.{is_prop→PathP}
use Rattle.std.proofs.Common.{inl, inr, mul-pos, arith}
use Rattle.std.proofs.Math.Bridge.{le_prop}
use Rattle.std.proofs.lemmas.Bool.{cases_order}
use Rattle.weight.specs.Algebra.{Algebra}

-- A number from 1 on.
pub record Positive : Type 0 where
  pub number : ℕ
  pub positive : 1 ≤ number

-- n, or 1 in the place of 0.
abbrev pub at_least_one : ℕ → Positive
at_least_one n = record { number = max n 1; positive = omega arith }

abbrev pub times : Positive → Positive → Positive
times a b = record { number = a.number * b.number; positive = mul-pos a.positive b.positive }

-- Positive numbers are equal where their numbers are.
pub same_number : {a b : Positive} → a.number ≡ b.number → a ≡ b
same_number {a = a} {b = b} p =
    λ i. record { number = p i; positive = is_prop→PathP (λ j. 1 ≤ p j) (λ j. le_prop) a.positive b.positive i }

pub positives_order : (a b : Positive) → (a ≡ b) ⊎ ((a.number < b.number) ⊎ (b.number < a.number))
positives_order a b = elim (cases_order a.number b.number) [ inl h ↦ inl (same_number h) | inr h ↦ inr h ]

-- The ceiling of odds.
abbrev pub most_odds : ℕ
most_odds = 4000000000

-- Numbers from 1 on, under multiplication.
abbrev pub odds : Algebra
odds = record {
  Exact = Positive;
  lt = λ a b. a.number < b.number;
  order = positives_order;
  none = at_least_one 1;
  plus = times;
  ceiling = at_least_one most_odds;
  kind = 1;
  least = 2;
  taken = at_least_one;
  shown = λ e. e.number;
}
