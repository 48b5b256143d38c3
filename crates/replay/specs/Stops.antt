-- The stops of a replay: the number and the figure of each, and its words. Assumes nothing.
--   Stop         what a stop tells
--   told s       what the case s of the code's type tells
--   what s       the words of s, which its figure ends
--   words_of s   all that is shown of s
use Rattle.std.specs.Prelude.{ℕ, List, ◌++◌, codes}
use Rattle.std.specs.Fmt.{decimal}
pub use Rattle.replay.specs.declared.stops.ReplayStop.{ReplayStop}
use Rattle.replay.specs.declared.stops.ReplayStop.TheVariants.{Uneven, NoCommand, NoProduction, TooFew, WrongCategory, TooLong, NotOne, NotStart, NoRoom}

pub record Stop : Type 0 where
  pub number : ℕ
  pub figure : ℕ

abbrev pub stop_at : ℕ → ℕ → Stop
stop_at number figure = record { number = number; figure = figure }

-- the table of the stops of a replay
abbrev pub told : ReplayStop → Stop
told (Uneven length) = stop_at 11 length
told (NoCommand at) = stop_at 12 at
told (NoProduction at) = stop_at 13 at
told (TooFew at) = stop_at 14 at
told (WrongCategory at) = stop_at 15 at
told (TooLong at) = stop_at 16 at
told (NotOne yields) = stop_at 17 yields
told (NotStart category) = stop_at 18 category
told (NoRoom tokens) = stop_at 19 tokens

-- why it stopped
abbrev pub what : ReplayStop → List ℕ
what (Uneven _) = codes "the list is not of whole commands; its bytes are"
what (NoCommand _) = codes "no command begins with the byte at"
what (NoProduction _) = codes "the grammar has no such production, in the command at byte"
what (TooFew _) = codes "fewer yields are stacked than there are arguments, for the command at byte"
what (WrongCategory _) = codes "an argument is of another category, for the command at byte"
what (TooLong _) = codes "the stack would hold too many tokens, after the command at byte"
what (NotOne _) = codes "one yield should be left, and not"
what (NotStart _) = codes "the yield is not of the start category, but of category"
what (NoRoom _) = codes "the output is smaller than the phrase, whose tokens are"

-- the number before the words, and the figure behind them
abbrev pub words_of : ReplayStop → List ℕ
words_of s = codes "stop " ++ decimal (told s).number ++ codes ": " ++ what s ++ codes " " ++ decimal (told s).figure
