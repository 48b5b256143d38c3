-- Exact weights that are pairs of numbers: lighter by their sum, at one sum by their first. They are added part by part. Assumes nothing.
use Rattle.std.specs.Prelude.{◌≡◌, ℕ, ◌+◌, ◌*◌, ◌<◌, ◌⊎◌}
use Rattle.std.proofs.Common.{inl, inr, arith}
use Rattle.std.proofs.lemmas.Bool.{cases_order}
use Rattle.weight.specs.Algebra.{Algebra, widest}

pub record Grade : Type 0 where
  pub first : ℕ
  pub second : ℕ

abbrev pub sum_of : Grade → ℕ
sum_of a = a.first + a.second

-- a is lighter than b
abbrev pub Lighter : Grade → Grade → Type 0
Lighter a b = (sum_of a < sum_of b) ⊎ ((sum_of a ≡ sum_of b) × (a.first < b.first))

abbrev pub added : Grade → Grade → Grade
added a b = record { first = a.first + b.first; second = a.second + b.second }

-- the largest sum that is held
abbrev pub most_grade : ℕ
most_grade = widest

pub same_grade : {a b : Grade} → a.first ≡ b.first → a.second ≡ b.second → a ≡ b
same_grade p q = λ i. record { first = p i; second = q i }

pub grades_order : (a b : Grade) → (a ≡ b) ⊎ (Lighter a b ⊎ Lighter b a)
grades_order a b =
    elim (cases_order (sum_of a) (sum_of b)) [
      | inl s ↦ elim (cases_order a.first b.first) [
        | inl e ↦ inl (same_grade e (omega (arith, s, e)))
        | inr o ↦ elim o [ inl l ↦ inr (inl (inr (s, l))) | inr l ↦ inr (inr (inr (omega (arith, s), l))) ]
      ]
      | inr o ↦ elim o [ inl l ↦ inr (inl (inl l)) | inr l ↦ inr (inr (inl l)) ]
    ]

abbrev pub grades : Algebra
grades = record {
  Exact = Grade;
  lt = Lighter;
  order = grades_order;
  none = record { first = 0; second = 0 };
  plus = added;
  ceiling = record { first = most_grade; second = 0 };
  kind = 2;
  least = 1;
  taken = λ n. record { first = n; second = 0 };
  shown = λ a. sum_of a * 65536 + a.first;
}
