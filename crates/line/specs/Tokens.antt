-- The tokens of a line and of a phrase, as lists, and what the calls make of them.
--   tokens_of l, phrase_of p   the tokens of the line l, of the phrase p
--   added ts t                 ts with t keyed
--   rubbed ts                  ts with the last token rubbed out
--   key_told ts, rub_told ts   what key and rub tell on a line that holds ts
use Rattle.std.specs.Prelude.{ℕ, ◌-◌, cond, List, [], ◌∷◌, ◌++◌, length, take, ◌==◌}
use Rattle.line.specs.Room.{room}
use Rattle.line.specs.Stops.{Told, Done, Stop}
use Rattle.line.specs.declared.line.Line.{Line}
use Rattle.line.specs.declared.line.Phrase.{Phrase}

-- What the line keeps, in the order of its keying.
abbrev pub tokens_of : Line → List ℕ
tokens_of l = l.tokens.items

-- Those of the line that was sealed.
abbrev pub phrase_of : Phrase → List ℕ
phrase_of p = tokens_of p.line

-- The token goes last; where 15 are held, nothing is added.
abbrev pub added : List ℕ → ℕ → List ℕ
added ts t = cond (length ts == room) ts (ts ++ t ∷ [])

-- All tokens but the last; of none, none.
abbrev pub rubbed : List ℕ → List ℕ
rubbed ts = take (length ts - 1) ts

-- Stop 31 with figure 15 exactly where 15 tokens are held.
abbrev pub key_told : List ℕ → Told
key_told ts = cond (length ts == room) (Stop 31 room) Done

-- Stop 32 with figure 0 exactly where no token is held.
abbrev pub rub_told : List ℕ → Told
rub_told ts = cond (length ts == 0) (Stop 32 0) Done
