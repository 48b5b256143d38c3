-- What the stack of a replay holds, and what one command does to it. Assumes nothing.
--   stack_of s                 the yields on the stack s
--   NoneEmpty stack            each yield has a token
--   does g bytes at stack      what the command of these bytes, at the offset at, does to the stack
--   Names g bytes at r         that command performs the production r of the grammar g
--   Unnamed g bytes at o       it performs none, and this is its stop
--   Made r s tokens lengths    these are the tokens after the command of the production r on the stack s, and the lengths of its strings
--   Stops r at s e             that command, at the offset at, gives this stop
--   Performed r at s a t       that command led from the stack s to the answer a and the stack t, as perform says
--   Left start s phrase        the stack s holds this phrase, a yield of the category start
--   NotLeft start s e          it holds none, and this is its stop
use Rattle.std.specs.Prelude.{◌≡◌, ℕ, ◌≤◌, ◌<◌, true, List, [], ◌∷◌, map, length, take, drop, Ok, Err, Result, slice_index}
use Rattle.grammar.specs.Grammars.{ProductionModel, GrammarModel, production}
use Rattle.grammar.specs.Formed.{Each}
use Rattle.grammar.specs.Trees.{spell, tokens_in}
use Rattle.replay.specs.declared.stack.Stack.{Stack}
use Rattle.replay.specs.Stops.{ReplayStop, Stop, told}
use Rattle.replay.specs.Replays.{Yield, Yields, most_tokens, fit, categories_on, strings_on, perform, command, phrase_of, finish}
use Rattle.replay.specs.Piles.{items}
use Rattle.replay.specs.Shapes.{Lengths, Laid, laid_out, total}

abbrev pub stack_of : Stack → Yields
stack_of s = laid_out (items s.shapes) (items s.tokens)

abbrev pub NoneEmpty : Yields → Type 0
NoneEmpty stack = Each (λ y. 1 ≤ tokens_in y.strings) stack

-- what a command of three bytes does to each stack
abbrev pub does : GrammarModel → List ℕ → ℕ → Yields → Result Yields Stop
does g bytes at stack = command g at (slice_index bytes 0) (slice_index bytes 1) (slice_index bytes 2) stack

pub record Names (g : GrammarModel) (bytes : List ℕ) (at : ℕ) (r : ProductionModel) : Type 0 where
  pub number : ℕ
  pub known : number < length g.productions
  pub held : production g number ≡ r
  pub performs : (stack : Yields) → does g bytes at stack ≡ perform r at stack

abbrev pub Unnamed : GrammarModel → List ℕ → ℕ → Stop → Type 0
Unnamed g bytes at o = (stack : Yields) → does g bytes at stack ≡ Err o

-- the production's yield, and behind it the rest of the tokens
pub record Made (r : ProductionModel) (s : Stack) (tokens : List ℕ) (lengths : Lengths) : Type 0 where
  pub enough : length r.arguments ≤ length (stack_of s)
  pub fits : fit r.arguments (categories_on (stack_of s)) ≡ true
  pub laid : Laid (map (spell (strings_on (take (length r.arguments) (stack_of s)))) r.constituents)
      (drop (total (take (length r.arguments) (items s.shapes))) (items s.tokens)) tokens lengths
  pub few : length tokens ≤ most_tokens

abbrev pub Stops : ProductionModel → ℕ → Stack → ReplayStop → Type 0
Stops r at s e = perform r at (stack_of s) ≡ Err (told e)

abbrev pub Performed : ProductionModel → ℕ → Stack → Result (Unit {0}) ReplayStop → Stack → Type 0
Performed r at s (Ok _) t = perform r at (stack_of s) ≡ Ok (stack_of t)
Performed r at s (Err e) t = Stops r at s e

-- one yield of the start category, and its first string
pub record Left (start : ℕ) (s : Stack) (phrase : List ℕ) : Type 0 where
  pub only : Yield
  pub whole : stack_of s ≡ only ∷ []
  pub of_start : only.category ≡ start
  pub first : phrase ≡ phrase_of only

abbrev pub NotLeft : ℕ → Stack → ReplayStop → Type 0
NotLeft start s e = (g : GrammarModel) (room : ℕ) → g.start ≡ start → finish g room (stack_of s) ≡ Err (told e)
