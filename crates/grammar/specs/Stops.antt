-- The stops of a load: the number, the figure and the layer of each. Assumes nothing.
--   Stop         what a stop tells
--   told s       what the case s of the code's type tells
use Rattle.std.specs.Prelude.{ℕ}
pub use Rattle.grammar.specs.declared.stops.Layer.{Layer}
pub use Rattle.grammar.specs.declared.stops.Layer.TheVariants.{Reader, Grammar}
pub use Rattle.grammar.specs.declared.stops.PackStop.{PackStop}
use Rattle.grammar.specs.declared.stops.PackStop.TheVariants.{Incomplete, Unknown, Misplaced, TooMany, BadOperand, Unfilled, Unnamed, BadStart, Trailing}

pub record Stop : Type 0 where
  pub number : ℕ
  pub figure : ℕ
  pub layer : Layer

abbrev pub stop_at : ℕ → ℕ → Layer → Stop
stop_at number figure layer = record { number = number; figure = figure; layer = layer }

-- the table of the stops of a load
abbrev pub told : PackStop → Stop
told (Incomplete at) = stop_at 1 at Reader
told (Unknown at) = stop_at 2 at Reader
told (Misplaced at) = stop_at 3 at Grammar
told (TooMany at) = stop_at 4 at Grammar
told (BadOperand at) = stop_at 5 at Grammar
told (Unfilled production) = stop_at 6 production Grammar
told (Unnamed production) = stop_at 7 production Grammar
told (BadStart at) = stop_at 8 at Grammar
told (Trailing at) = stop_at 9 at Grammar
