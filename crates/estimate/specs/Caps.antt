-- The numbers of a kind that a number shows; one beyond the kind's weights shows the nearest. Assumes nothing.
use Rattle.std.specs.Prelude.{◌≡◌, ℕ, min, max}
use Rattle.std.proofs.Common.{arith}
use Rattle.weight.specs.Numbers.{low_within}
use Rattle.weight.specs.NumberValues.{number_same}
use Rattle.weight.specs.declared.number.Number.{Number}
use Rattle.weight.specs.declared.number.Joining.{Ghosts}

module _ {J : Type 0} (joining : Ghosts J) where
  abbrev pub number_showing : ℕ → Number J joining
  number_showing n = record { value = max joining.NONE (min n joining.CEILING); joining = record {}; least = omega arith; within = omega (arith, low_within joining.numbers) }

  -- a number shows itself
  pub number_shown : (w : Number J joining) → number_showing (joining.algebra.shown (joining.numbers.weight w.value w.least)) ≡ w
  number_shown w = number_same joining _ w (omega (arith, joining.numbers.shows w.value w.least, w.least, w.within))
