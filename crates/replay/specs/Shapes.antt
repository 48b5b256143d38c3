-- Yields whose tokens lie end to end, told apart by their lengths. Assumes nothing.
--   size l          the tokens of strings of the lengths l together
--   first l         those of the first
--   total ss        the tokens of yields of the shapes ss together
--   cut l ts        the strings of the lengths l at the front of ts
--   laid_out ss ts  the yields of the shapes ss at the front of ts
--   Laid            strings were put before the tokens, and their lengths are these
--   StringPut       the string of a constituent was put before the tokens, if they hold no more than they may
--   StringsPut      the same of the strings of all constituents
use Rattle.std.specs.Prelude.{◌≡◌, ℕ, ◌+◌, ◌<◌, List, [], ◌∷◌, ◌++◌, map, length, take, drop, Some, None, Option}
use Rattle.grammar.specs.declared.symbol.Symbol.{Symbol}
use Rattle.grammar.specs.Trees.{spell, tokens_in}
use Rattle.replay.specs.Replays.{Yields, most_tokens}
pub use Rattle.replay.specs.declared.shape.Lengths.{Lengths}
pub use Rattle.replay.specs.declared.shape.Lengths.TheVariants.{One, Two}
pub use Rattle.replay.specs.declared.shape.Shape.{Shape}

abbrev pub size : Lengths → ℕ
size (One n) = n
size (Two n m) = n + m

abbrev pub first : Lengths → ℕ
first (One n) = n
first (Two n m) = n

abbrev pub total : List Shape → ℕ
total [] = 0
total (s ∷ ss) = size s.lengths + total ss

abbrev pub cut : Lengths → List ℕ → List (List ℕ)
cut (One n) ts = take n ts ∷ []
cut (Two n m) ts = take n ts ∷ take m (drop n ts) ∷ []

abbrev pub laid_out : List Shape → List ℕ → Yields
laid_out [] ts = []
laid_out (s ∷ ss) ts = record { category = s.category; strings = cut s.lengths ts } ∷ laid_out ss (drop (size s.lengths) ts)

-- from the tokens before to those after; the answer is the string's length
abbrev pub StringPut : List (List (List ℕ)) → List Symbol → List ℕ → List ℕ → Option ℕ → Type 0
StringPut ys symbols before after None = most_tokens < length (spell ys symbols) + length before
StringPut ys symbols before after (Some n) = (n ≡ length (spell ys symbols)) × (after ≡ spell ys symbols ++ before)

-- the tokens after are the strings and then those before; the answer is their lengths
pub record Laid (strings : List (List ℕ)) (before after : List ℕ) (l : Lengths) : Type 0 where
  pub front : cut l after ≡ strings
  pub behind : drop (size l) after ≡ before
  pub longer : length after ≡ size l + length before

abbrev pub StringsPut : List (List (List ℕ)) → List (List Symbol) → List ℕ → List ℕ → Option Lengths → Type 0
StringsPut ys constituents before after None = most_tokens < tokens_in (map (spell ys) constituents) + length before
StringsPut ys constituents before after (Some l) = Laid (map (spell ys) constituents) before after l
