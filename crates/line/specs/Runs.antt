-- Calls told by name: what each makes of a line or phrase, and the history that a list of them spells.
--   Content, content_of x, tokens_in k  tokens as a line or as a phrase; those that x holds; the tokens alone
--   after k c                           what the call c leaves of the content k
--   Reply, reply r, replied k c         what is answered to a call; by the result r; on the content k to c
--   Past, keyed_in p                    a history in either mode; what it keyed
--   HeldOf p x                          x holds what the history p keyed
--   made p c, made_all p cs             the history p, and then the call c; and then all of cs
--   spelled cs                          the history that the calls cs spell on a fresh line
--   calls_in p, stops_in p              how many calls the history p has; how many of them were stopped
use Rattle.std.specs.Prelude.{◌≡◌, ℕ, ◌+◌, List, [], ◌∷◌, Ok, Err, Result}
use Rattle.line.specs.Stops.{Told, Done, Stop, number_of, figure_of}
use Rattle.line.specs.Tokens.{tokens_of, phrase_of, added, rubbed, key_told, rub_told}
use Rattle.line.specs.History.{Mode, History, keyed}
use Rattle.line.specs.History as log
use Rattle.line.specs.declared.run.Call.{Call}
use Rattle.line.specs.declared.run.Call.TheVariants.{Key, Rub, Wipe, Seal, Reopen}
use Rattle.line.specs.declared.run.Held.{Held}
use Rattle.line.specs.declared.run.Held.TheVariants.{Open, Sealed}
use Rattle.line.specs.declared.run.Refusal.{Refusal}
use Rattle.line.specs.declared.run.Refusal.TheVariants.{Stopped, IsSealed, NotSealed}

-- Tokens of a line, which is being keyed, or of a phrase, which is keyed to its end.
pub data Content : Type 0 where
  Keying : List ℕ → Content
  Keyed : List ℕ → Content

-- The mode is that of the type that is held.
abbrev pub content_of : Held → Content
content_of (Open l) = Keying (tokens_of l)
content_of (Sealed p) = Keyed (phrase_of p)

-- The tokens are the same in either mode.
abbrev pub tokens_in : Content → List ℕ
tokens_in (Keying ts) = ts
tokens_in (Keyed ts) = ts

-- A call that is not of the mode is not made, and changes nothing.
abbrev pub after : Content → Call → Content
after (Keying ts) (Key t) = Keying (added ts t)
after (Keying ts) Rub = Keying (rubbed ts)
after (Keying ts) Wipe = Keying []
after (Keying ts) Seal = Keyed ts
after (Keying ts) Reopen = Keying ts
after (Keyed ts) (Key t) = Keyed ts
after (Keyed ts) Rub = Keyed ts
after (Keyed ts) Wipe = Keyed ts
after (Keyed ts) Seal = Keyed ts
after (Keyed ts) Reopen = Keying ts

-- The call was made and told this; or it was not made, since the line is sealed, or since it is not.
pub data Reply : Type 0 where
  Made : Told → Reply
  WhileSealed : Reply
  WhileOpen : Reply

-- A result tells a stop by its number and figure.
abbrev pub reply : Result (Unit {0}) Refusal → Reply
reply (Ok _) = Made Done
reply (Err (Stopped s)) = Made (Stop (number_of s) (figure_of s))
reply (Err IsSealed) = WhileSealed
reply (Err NotSealed) = WhileOpen

-- Key and rub may be stopped; nothing else that is of the mode can be.
abbrev pub replied : Content → Call → Reply
replied (Keying ts) (Key t) = Made (key_told ts)
replied (Keying ts) Rub = Made (rub_told ts)
replied (Keying ts) Wipe = Made Done
replied (Keying ts) Seal = Made Done
replied (Keying ts) Reopen = WhileOpen
replied (Keyed ts) (Key t) = WhileSealed
replied (Keyed ts) Rub = WhileSealed
replied (Keyed ts) Wipe = WhileSealed
replied (Keyed ts) Seal = WhileSealed
replied (Keyed ts) Reopen = Made Done

-- A history whose last mode is open, or sealed.
pub data Past : Type 0 where
  OfLine : History log.Open → Past
  OfPhrase : History log.Sealed → Past

-- What a history keyed, in the mode that it ends in.
abbrev pub keyed_in : Past → Content
keyed_in (OfLine h) = Keying (keyed h)
keyed_in (OfPhrase h) = Keyed (keyed h)

-- The mode and the tokens are those of the history.
abbrev pub HeldOf : Past → Held → Type 0
HeldOf p x = content_of x ≡ keyed_in p

-- A stopped call is an event of the history; one that is not of the mode is none.
abbrev pub made : Past → Call → Past
made (OfLine h) (Key t) = OfLine (log.Key h t)
made (OfLine h) Rub = OfLine (log.Rub h)
made (OfLine h) Wipe = OfLine (log.Wipe h)
made (OfLine h) Seal = OfPhrase (log.Seal h)
made (OfLine h) Reopen = OfLine h
made (OfPhrase h) (Key t) = OfPhrase h
made (OfPhrase h) Rub = OfPhrase h
made (OfPhrase h) Wipe = OfPhrase h
made (OfPhrase h) Seal = OfPhrase h
made (OfPhrase h) Reopen = OfLine (log.Reopen h)

-- The calls are made in their order.
abbrev pub made_all : Past → List Call → Past
made_all p [] = p
made_all p (c ∷ cs) = made_all (made p c) cs

-- A fresh line has the history that only starts.
abbrev pub spelled : List Call → Past
spelled cs = made_all (OfLine log.Start) cs

-- Every event but the start is a call.
abbrev pub calls_of : {m : Mode} → History m → ℕ
calls_of log.Start = 0
calls_of (log.Key h t) = calls_of h + 1
calls_of (log.Rub h) = calls_of h + 1
calls_of (log.Wipe h) = calls_of h + 1
calls_of (log.Seal h) = calls_of h + 1
calls_of (log.Read h) = calls_of h + 1
calls_of (log.Reopen h) = calls_of h + 1

-- A stop counts 1.
abbrev pub halts : Told → ℕ
halts Done = 0
halts (Stop n f) = 1

-- A key or a rub is stopped by what was keyed before it; what a read answers is not counted here.
abbrev pub stops_of : {m : Mode} → History m → ℕ
stops_of log.Start = 0
stops_of (log.Key h t) = stops_of h + halts (key_told (keyed h))
stops_of (log.Rub h) = stops_of h + halts (rub_told (keyed h))
stops_of (log.Wipe h) = stops_of h
stops_of (log.Seal h) = stops_of h
stops_of (log.Read h) = stops_of h
stops_of (log.Reopen h) = stops_of h

-- The same of a history in either mode.
abbrev pub calls_in : Past → ℕ
calls_in (OfLine h) = calls_of h
calls_in (OfPhrase h) = calls_of h

abbrev pub stops_in : Past → ℕ
stops_in (OfLine h) = stops_of h
stops_in (OfPhrase h) = stops_of h

-- What a reply adds to the stopped calls, and to those that were not made.
abbrev pub stop_count : Reply → ℕ
stop_count (Made t) = halts t
stop_count WhileSealed = 0
stop_count WhileOpen = 0

abbrev pub skip_count : Reply → ℕ
skip_count (Made t) = 0
skip_count WhileSealed = 1
skip_count WhileOpen = 1
