-- What was done with one line from its making on, and the tokens that follow from that alone.
--   Mode         whether the line is open or sealed
--   History m    the calls on one line, stopped ones included, that leave it in mode m
--   keyed h      the tokens that the history h keyed
--   LineOf h l   the line l holds what h keyed; PhraseOf h p, the phrase p does
use Rattle.std.specs.Prelude.{◌≡◌, ℕ, List, []}
use Rattle.line.specs.Tokens.{tokens_of, phrase_of, added, rubbed}
use Rattle.line.specs.declared.line.Line.{Line}
use Rattle.line.specs.declared.line.Phrase.{Phrase}

-- A line is open until it is sealed, and again once it is reopened.
pub data Mode : Type 0 where
  Open : Mode
  Sealed : Mode

-- The newest call stands outermost. A line is keyed, rubbed, wiped and sealed while it is open, and
-- read and reopened once it is sealed: no other order can be written.
pub data History : Mode → Type 0 where
  Start : History Open
  Key : History Open → ℕ → History Open
  Rub : History Open → History Open
  Wipe : History Open → History Open
  Seal : History Open → History Sealed
  Read : History Sealed → History Sealed
  Reopen : History Sealed → History Open

-- By the calls and their tokens alone: none at first; seal, read and reopen change none.
abbrev pub keyed : {m : Mode} → History m → List ℕ
keyed Start = []
keyed (Key h t) = added (keyed h) t
keyed (Rub h) = rubbed (keyed h)
keyed (Wipe h) = []
keyed (Seal h) = keyed h
keyed (Read h) = keyed h
keyed (Reopen h) = keyed h

-- The tokens are those that the calls keyed, no more and in their order.
abbrev pub LineOf : History Open → Line → Type 0
LineOf h l = tokens_of l ≡ keyed h

abbrev pub PhraseOf : History Sealed → Phrase → Type 0
PhraseOf h p = phrase_of p ≡ keyed h
