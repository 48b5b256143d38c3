-- What is printed of the parts of a grammar, as bytes. Assumes nothing.
--   layer_text l    the name of the layer l
--   symbol_text s   the token, or the numbers of the part
--   reason_text s   what the stop s is about
--   stop_text s     the stop s: its number, what it is about, its figure
use Rattle.std.specs.Prelude.{ℕ, List, ◌++◌, codes, decimal}
use Rattle.grammar.specs.declared.symbol.Symbol.TheVariants as symbol
use Rattle.grammar.specs.Grammars.{Symbol}
use Rattle.grammar.specs.Stops.{Layer, Reader, Grammar, PackStop, told}
use Rattle.grammar.specs.declared.stops.PackStop.TheVariants.{Incomplete, Unknown, Misplaced, TooMany, BadOperand, Unfilled, Unnamed, BadStart, Trailing}

abbrev pub layer_text : Layer → List ℕ
layer_text Reader = codes "reader"
layer_text Grammar = codes "grammar"

abbrev pub symbol_text : Symbol → List ℕ
symbol_text (symbol.Token t) = decimal t
symbol_text (symbol.Part k l) = codes "<" ++ (decimal k ++ (codes ";" ++ (decimal l ++ codes ">")))

abbrev pub reason_text : PackStop → List ℕ
reason_text (Incomplete at) = codes "the pack ends before its command at byte"
reason_text (Unknown at) = codes "no command begins with the byte at"
reason_text (Misplaced at) = codes "a command is not allowed at this stage, at byte"
reason_text (TooMany at) = codes "a limit is exceeded at byte"
reason_text (BadOperand at) = codes "an operand is out of range, in the command at byte"
reason_text (Unfilled production) = codes "a constituent is missing or empty, of the production at byte"
reason_text (Unnamed production) = codes "an argument's constituent is never named, in the production at byte"
reason_text (BadStart at) = codes "the start category is unknown or of dimension 2, at byte"
reason_text (Trailing at) = codes "bytes follow the end, from byte"

abbrev pub stop_text : PackStop → List ℕ
stop_text s = codes "stop " ++ (decimal (told s).number ++ (codes ": " ++ (reason_text s ++ (codes " " ++ decimal (told s).figure))))
