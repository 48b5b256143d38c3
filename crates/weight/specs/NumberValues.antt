-- Each number is fixed by its value, and which holds none. Assumes nothing.
use Rattle.std.specs.Prelude.{◌≡◌, ◌≤◌}
use mathlib.Core.HLevel.{is_prop→PathP}
use Rattle.std.proofs.Math.Bridge.{le_prop}
use Rattle.std.proofs.Common.{arith, sym, ◌∙◌}
use Rattle.weight.specs.Numbers.{low_within, shown_within, weight_shown}
use Rattle.weight.specs.Algebra.{Le}
use Rattle.weight.specs.declared.number.Number.{Number}
use Rattle.weight.specs.declared.number.Joining.{Ghosts}

module _ {J : Type 0} (joining : Ghosts J) where
  pub number_same : (v w : Number J joining) → v.value ≡ w.value → v ≡ w
  number_same v w p =
      λ i. record {
        value = p i;
        joining = record {};
        least = is_prop→PathP (λ j. joining.NONE ≤ p j) (λ j. le_prop) v.least w.least i;
        within = is_prop→PathP (λ j. p j ≤ joining.CEILING) (λ j. le_prop) v.within w.within i;
      }

  -- the number that holds none
  abbrev pub no_number : Number J joining
  no_number = record { value = joining.NONE; joining = record {}; least = omega arith; within = low_within joining.numbers }

  pub no_number_none : joining.numbers.weight no_number.value no_number.least ≡ joining.algebra.none
  no_number_none = joining.numbers.once _ joining.algebra.none (joining.numbers.shows no_number.value no_number.least ∙ sym joining.numbers.none)

  pub number_of : (e : joining.algebra.Exact) → Le joining.algebra e joining.algebra.ceiling
      → (w : Number J joining) × (joining.numbers.weight w.value w.least ≡ e)
  number_of e h = (
    record {
      value = joining.algebra.shown e;
      joining = record {};
      least = joining.numbers.from e;
      within = shown_within joining.numbers e h;
    },
    weight_shown joining.numbers e,
  )
