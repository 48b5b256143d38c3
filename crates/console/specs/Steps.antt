-- What a line of a script asks for. Assumes nothing.
--   blank line       the line has no byte but spaces and tabs
--   AsksFor line t   the line asks for the step t
--   Asked line r     r is what the line asks for, and an error where it asks for nothing
--   Parsed line r    the same, where r may also be want of memory
use Rattle.std.specs.Prelude.{◌≡◌, ℕ, Bool, true, ◌&&◌, ◌||◌, List, [], ◌∷◌, ◌++◌, Some, Ok, Err, vec_items, codes, Result, ◌==◌, ◌≢◌}
use Rattle.line.specs.declared.run.Call.{Call}
use Rattle.line.specs.declared.run.Call.TheVariants as call
use Rattle.console.specs.declared.step.Step.{Step}
use Rattle.console.specs.declared.step.Step.TheVariants as step
use Rattle.console.specs.declared.step.Fault.{Fault}
use Rattle.console.specs.declared.step.ParseError.{ParseError}
use Rattle.console.specs.declared.step.ParseError.TheVariants as error
use Rattle.console.specs.Hex.{bytes_of}
use Rattle.console.specs.Decimal.{number_of}

abbrev pub blank : List ℕ → Bool
blank [] = true
blank (c ∷ cs) = (c == 32 || c == 9) && blank cs

-- the largest number that is an operand
abbrev pub most : ℕ
most = 65535

-- a word and the number behind it
abbrev pub WithNumber : List ℕ → List ℕ → ℕ → Type 0
WithNumber word line n = (text : List ℕ) × (line ≡ word ++ text) × (number_of most text ≡ Some n)

-- a word and the bytes behind it
abbrev pub WithBytes : List ℕ → List ℕ → List ℕ → Type 0
WithBytes word line bytes = (text : List ℕ) × (line ≡ word ++ text) × (bytes_of text ≡ Some bytes)

abbrev pub CallsFor : List ℕ → Call → Type 0
CallsFor line (call.Key t) = WithNumber (codes "key ") line t
CallsFor line call.Rub = line ≡ codes "rub"
CallsFor line call.Wipe = line ≡ codes "wipe"
CallsFor line call.Seal = line ≡ codes "seal"
CallsFor line call.Reopen = line ≡ codes "reopen"

abbrev pub AsksFor : List ℕ → Step → Type 0
AsksFor line step.Blank = blank line ≡ true
AsksFor line step.Comment = (text : List ℕ) × (line ≡ codes "#" ++ text)
AsksFor line (step.Pack v) = WithBytes (codes "pack") line (vec_items v)
AsksFor line step.Grammar = line ≡ codes "grammar"
AsksFor line (step.Room n) = WithNumber (codes "room ") line n
AsksFor line (step.Replay v) = WithBytes (codes "replay") line (vec_items v)
AsksFor line (step.Call c) = CallsFor line c

abbrev pub Asked : List ℕ → Result Step Fault → Type 0
Asked line (Ok t) = AsksFor line t
Asked line (Err f) = (t : Step) → AsksFor line t → ⊥

-- want of memory says nothing of the line
abbrev pub Parsed : List ℕ → Result Step ParseError → Type 0
Parsed line (Ok t) = Asked line (Ok t)
Parsed line (Err (error.Fault f)) = Asked line (Err f)
Parsed line (Err (error.OutOfMemory a)) = Unit {0}

-- the line is none of the words that stand alone
pub record NoWord (line : List ℕ) : Type 0 where
  pub grammar : line ≡ codes "grammar" → ⊥
  pub rub : line ≡ codes "rub" → ⊥
  pub wipe : line ≡ codes "wipe" → ⊥
  pub seal : line ≡ codes "seal" → ⊥
  pub reopen : line ≡ codes "reopen" → ⊥

-- the line is not blank, no comment, and none of those words
pub record Wordless (line : List ℕ) : Type 0 where
  pub some : blank line ≡ true → ⊥
  pub plain : (text : List ℕ) → line ≢ codes "#" ++ text
  pub word : NoWord line
