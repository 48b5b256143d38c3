-- Graded pairs hold the grades up to the ceiling, each once, and are compared as these are. Assumes nothing.
use Rattle.std.specs.Prelude.{◌≡◌, ◌<◌, ◌≤◌}
use mathlib.Core.HLevel.{is_prop→PathP}
use Rattle.std.proofs.Math.Bridge.{le_prop}
use Rattle.std.proofs.Common.{inl, inr, arith, ap, refl}
use Rattle.std.proofs.lemmas.Bool.{cases_lt}
use Rattle.std.proofs.lemmas.Cmp.{ranked}
use Rattle.std.specs.Ordering.{nat_cmp, ordering_then, MatchOrdering}
use Rattle.std.specs.declared.cmp.Ordering.TheVariants.{Less, Equal, Greater}
use Rattle.std.specs.declared.cmp.Ordering.{Ordering}
use Rattle.weight.specs.Algebra.{Le, Compared}
use Rattle.weight_cases.specs.Grades.{Grade, grades, most_grade, same_grade, sum_of}
use Rattle.weight_cases.specs.GradedValues.{grade_of}
use Rattle.weight_cases.specs.declared.graded.Graded.{Graded}

pub graded_same : (v w : Graded) → v.sum ≡ w.sum → v.first ≡ w.first → v ≡ w
graded_same v w p q =
    λ i. record {
      sum = p i;
      first = q i;
      part = is_prop→PathP (λ j. q j ≤ p j) (λ j. le_prop) v.part w.part i;
      within = is_prop→PathP (λ j. p j ≤ most_grade) (λ j. le_prop) v.within w.within i;
    }

pub graded_once : (v w : Graded) → grade_of v ≡ grade_of w → v ≡ w
graded_once v w h =
    let first = ap (λ e. e.first) h in
    let second = ap (λ e. e.second) h in
    graded_same v w (omega (arith, first, second, v.part, w.part)) first

pub graded_held : (e : Grade) → Le grades e grades.ceiling → (w : Graded) × (grade_of w ≡ e)
graded_held e h =
    let small : sum_of e ≤ most_grade = elim (cases_lt most_grade (sum_of e)) [ inl l ↦ absurd (h (inl (omega arith))) | inr l ↦ omega arith ] in
    (record { sum = sum_of e; first = e.first; part = omega arith; within = small }, same_grade refl (omega arith))

graded_by : (v w : Graded) (r s : Ordering) → MatchOrdering r (v.sum < w.sum) (v.sum ≡ w.sum) (w.sum < v.sum) → MatchOrdering s (v.first < w.first) (v.first ≡ w.first) (w.first < v.first)
    → Compared grades (grade_of v) (grade_of w) (ordering_then r s)
graded_by v w Less s h k = inl (omega (arith, h, v.part, w.part))
graded_by v w Equal Less h k = inr (omega (arith, h, v.part, w.part), k)
graded_by v w Equal Equal h k = same_grade k (omega (arith, h, k))
graded_by v w Equal Greater h k = inr (omega (arith, h, v.part, w.part), k)
graded_by v w Greater s h k = inl (omega (arith, h, v.part, w.part))

pub graded_compared : (v w : Graded) → Compared grades (grade_of v) (grade_of w) (ordering_then (nat_cmp v.sum w.sum) (nat_cmp v.first w.first))
graded_compared v w = graded_by v w (nat_cmp v.sum w.sum) (nat_cmp v.first w.first) (ranked v.sum w.sum _ refl) (ranked v.first w.first _ refl)
