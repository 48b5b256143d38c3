-- What holds of every history of a line.
--   HistoryLaws most   the laws of keyed tokens, where a line holds at most `most` of them
use Rattle.std.specs.Prelude.{◌≡◌, ℕ, ◌<◌, ◌≤◌, [], ◌∷◌, ◌++◌, length}
use Rattle.line.specs.History.{Mode, History, Open, Sealed, Key, Rub, Wipe, Seal, Read, Reopen, keyed, LineOf, PhraseOf}
use Rattle.line.specs.declared.line.Line.{Line}
use Rattle.line.specs.declared.line.Phrase.{Phrase}

pub record HistoryLaws (most : ℕ) : Type 0 where
  -- No history keys more than that many tokens, and some history keys as many.
  pub short : (m : Mode) (h : History m) → length (keyed h) ≤ most
  pub full : (h : History Open) × (length (keyed h) ≡ most)
  -- A key adds its token last while there is room, and then nothing.
  pub adds : (h : History Open) (t : ℕ) → length (keyed h) < most → keyed (Key h t) ≡ keyed h ++ t ∷ []
  pub stays : (h : History Open) (t : ℕ) → length (keyed h) ≡ most → keyed (Key h t) ≡ keyed h
  -- A rub takes back what a key added; of no tokens it leaves none, and so does a wipe of any.
  pub undoes : (h : History Open) (t : ℕ) → length (keyed h) < most → keyed (Rub (Key h t)) ≡ keyed h
  pub none : (h : History Open) → keyed h ≡ [] → keyed (Rub h) ≡ []
  pub wiped : (h : History Open) → keyed (Wipe h) ≡ []
  -- Sealing, reading and reopening change no keyed token.
  pub sealing : (h : History Open) → keyed (Seal h) ≡ keyed h
  pub reading : (h : History Sealed) → keyed (Read h) ≡ keyed h
  pub reopening : (h : History Sealed) → keyed (Reopen h) ≡ keyed h
  -- Every line and every phrase is that of some history: what is said of all histories is said of all of them.
  pub lines : (l : Line) → (h : History Open) × LineOf h l
  pub phrases : (p : Phrase) → (h : History Sealed) × PhraseOf h p
