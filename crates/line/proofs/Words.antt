-- What is written of a stop, piece by piece, is its words.
use Rattle.std.proofs.Common.{◌≡◌, ℕ, ◌++◌, codes, decimal}
use Rattle.std.specs.Fmt.{digits}
use Rattle.line.specs.Stops.{number_of, figure_of, words_of}
use Rattle.line.specs.declared.stop.LineStop.{LineStop}
use Rattle.line.specs.declared.stop.LineStop.TheVariants.{Full, Empty}

pub full_words : (s : LineStop) (n f : ℕ) → s ≡ Full → n ≡ number_of s → f ≡ figure_of s
    → codes "stop " ++ (decimal n ++ (codes ": the line holds " ++ (decimal f ++ codes " tokens already"))) ≡ words_of s
unfolding digits
full_words s n f is number figure = simp (number, figure, is)

pub empty_words : (s : LineStop) (n : ℕ) → s ≡ Empty → n ≡ number_of s → codes "stop " ++ (decimal n ++ codes ": the line holds no token") ≡ words_of s
unfolding digits
empty_words s n is number = simp (number, is)
