-- What replaying a command list gives. Assumes nothing.
--   most_tokens              how many tokens the stack may hold
--   Yield                    a yield on the stack: its category and its strings
--   Yields                   a stack of them, the topmost first
--   perform r at stack       the command of the production r, at the offset at
--   run g at bytes           the commands of these bytes from the last to the first, where the first byte stands at the offset at
--   replay_of g bytes room   the phrase, or the stop, where the output has this much room
use Rattle.std.specs.Prelude.{ℕ, ◌+◌, ◌%◌, Bool, true, false, cond, ◌&&◌, List, [], ◌∷◌, map, length, take, drop, Ok, Err, Result, ◌==◌, nat_le, nat_lt, slice_index_or}
use Rattle.grammar.specs.Grammars.{ProductionModel, GrammarModel, production}
use Rattle.grammar.specs.Commands.{wide}
use Rattle.grammar.specs.Trees.{spell, tokens_in, command_byte}
use Rattle.replay.specs.Stops.{Stop, stop_at}

abbrev pub most_tokens : ℕ
most_tokens = 15

pub record Yield : Type 0 where
  pub category : ℕ
  pub strings : List (List ℕ)

abbrev pub Yields : Type 0
Yields = List Yield

-- the tokens, the categories and the strings of all yields on the stack
abbrev pub tokens_on : Yields → ℕ
tokens_on [] = 0
tokens_on (y ∷ ys) = tokens_in y.strings + tokens_on ys

abbrev pub categories_on : Yields → List ℕ
categories_on stack = map (λ y. y.category) stack

abbrev pub strings_on : Yields → List (List (List ℕ))
strings_on stack = map (λ y. y.strings) stack

-- go on if the test is met, and else stop
abbrev pub need : {X : Type 0} → Bool → ℕ → ℕ → Result X Stop → Result X Stop
need met number figure go_on = cond met go_on (Err (stop_at number figure))

-- go on from what was given, unless it was a stop
abbrev pub and_then : {X Y : Type 0} → Result X Stop → (X → Result Y Stop) → Result Y Stop
and_then (Ok x) f = f x
and_then (Err e) f = Err e

-- the arguments' categories are those on the stack from the top on, the first topmost
abbrev pub fit : List ℕ → List ℕ → Bool
fit [] ds = true
fit (c ∷ cs) [] = false
fit (c ∷ cs) (d ∷ ds) = d == c && fit cs ds

-- the arguments are taken from the top, and the production's yield is put back
abbrev pub put : ProductionModel → Yields → Yields
put r stack =
    record {
      category = r.category;
      strings = map (spell (strings_on (take (length r.arguments) stack))) r.constituents;
    }
    ∷ drop (length r.arguments) stack

-- 14, 15 and 16, and then the effect; the tokens are those that the stack holds after it
abbrev pub perform : ProductionModel → ℕ → Yields → Result Yields Stop
perform r at stack =
    need (nat_le (length r.arguments) (length stack)) 14 at
    (need (fit r.arguments (categories_on stack)) 15 at
    (need (nat_le (tokens_on (put r stack)) most_tokens) 16 at
    (Ok (put r stack))))

-- the command of these three bytes: 12 and 13, and then what its production does
abbrev pub command : GrammarModel → ℕ → ℕ → ℕ → ℕ → Yields → Result Yields Stop
command g at byte high low stack =
    need (byte == command_byte) 12 at
    (need (nat_lt (wide high low) (length g.productions)) 13 at
    (perform (production g (wide high low)) at stack))

-- what follows a command is run before it
abbrev pub run : GrammarModel → ℕ → List ℕ → Result Yields Stop
run g at [] = Ok []
run g at (a ∷ []) = Ok []
run g at (a ∷ b ∷ []) = Ok []
run g at (a ∷ b ∷ c ∷ rest) = and_then (run g (at + 3) rest) (command g at a b c)

-- the start category has one string
abbrev pub phrase_of : Yield → List ℕ
phrase_of y = slice_index_or y.strings 0 []

-- 17, 18 and 19, and then the phrase
abbrev pub finish : GrammarModel → ℕ → Yields → Result (List ℕ) Stop
finish g room [] = Err (stop_at 17 0)
finish g room (y ∷ []) =
    need (y.category == g.start) 18 y.category
    (need (nat_le (length (phrase_of y)) room) 19 (length (phrase_of y))
    (Ok (phrase_of y)))
finish g room (y ∷ z ∷ ys) = Err (stop_at 17 (length (y ∷ z ∷ ys)))

-- 11 is checked before any command
abbrev pub replay_of : GrammarModel → List ℕ → ℕ → Result (List ℕ) Stop
replay_of g bytes room = need (length bytes % 3 == 0) 11 (length bytes) (and_then (run g 0 bytes) (finish g room))
