-- The stops of a line, by number and figure.
--   number_of s   the number of the stop s
--   figure_of s   its figure
--   words_of s    its words, as they are shown
--   Told          what a call tells its caller
--   told r        what the result r tells
use Rattle.std.specs.Prelude.{ℕ, List, Ok, Err, codes, Result}
use Rattle.line.specs.Room.{room}
use Rattle.line.specs.declared.stop.LineStop.{LineStop}
use Rattle.line.specs.declared.stop.LineStop.TheVariants.{Full, Empty}

-- Key on a full line is 31, rub on an empty one 32.
abbrev pub number_of : LineStop → ℕ
number_of Full = 31
number_of Empty = 32

-- The figure is how many tokens the line holds.
abbrev pub figure_of : LineStop → ℕ
figure_of Full = room
figure_of Empty = 0

-- What is shown of a stop.
abbrev pub words_of : LineStop → List ℕ
words_of Full = codes "stop 31: the line holds 15 tokens already"
words_of Empty = codes "stop 32: the line holds no token"

-- A call is done, or it is stopped: by which number, and with which figure.
pub data Told : Type 0 where
  Done : Told
  Stop : ℕ → ℕ → Told

-- An error tells its stop.
abbrev pub told : Result (Unit {0}) LineStop → Told
told (Ok _) = Done
told (Err s) = Stop (number_of s) (figure_of s)
