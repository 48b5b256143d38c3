-- The laws of every history, by induction on it, and a history for every line.
use Rattle.std.proofs.Common.{◌≡◌, ℕ, ◌+◌, ◌-◌, ◌<◌, ◌≤◌, false, eqb, List, [], ◌∷◌, ◌++◌, length, replicate, sym, refl, ap, ◌∙◌, arith, eq-eqb, ne_eqb}
use borrow.Author.Tests.{eqb-false}
use Rattle.std.proofs.lemmas.List.{append-nil, append_assoc, length_push, length-take, take_at}
use Rattle.std.proofs.lemmas.Bool.{cond_both}
use Rattle.line.specs.Room.{room}
use Rattle.line.specs.Tokens.{tokens_of, added, rubbed}
use Rattle.line.specs.History.{Mode, History, Open, Sealed, Start, Key, Rub, Wipe, Seal, Read, Reopen, keyed, LineOf, PhraseOf}
use Rattle.line.specs.Laws.{HistoryLaws}
use Rattle.line.specs.declared.line.Line.{Line}
use Rattle.line.specs.declared.line.Phrase.{Phrase}

added_below : (ts : List ℕ) (t : ℕ) → length ts < room → added ts t ≡ ts ++ t ∷ []
added_below ts t h = let e : eqb (length ts) room ≡ false = ne_eqb _ _ (λ z. omega arith) in rw e refl

added_full : (ts : List ℕ) (t : ℕ) → length ts ≡ room → added ts t ≡ ts
added_full ts t h = rw (eq-eqb (length ts) room h) refl

added_short : (ts : List ℕ) (t : ℕ) → length ts ≤ room → length (added ts t) ≤ room
added_short ts t h =
    cond_both (eqb (length ts) room) ts (ts ++ t ∷ []) (λ xs. length xs ≤ room) (λ _. h) (λ e. omega (arith, length_push ts t, eqb-false _ _ e))

rubbed_short : (ts : List ℕ) → length ts ≤ room → length (rubbed ts) ≤ room
rubbed_short ts h = omega (arith, length-take (length ts - 1) ts)

keyed_short : (m : Mode) (h : History m) → length (keyed h) ≤ room
keyed_short Open Start = omega arith
keyed_short Open (Key h t) = added_short (keyed h) t (keyed_short Open h)
keyed_short Open (Rub h) = rubbed_short (keyed h) (keyed_short Open h)
keyed_short Open (Wipe h) = omega arith
keyed_short Open (Reopen h) = keyed_short Sealed h
keyed_short Sealed (Seal h) = keyed_short Open h
keyed_short Sealed (Read h) = keyed_short Sealed h

rubbed_push : (ts : List ℕ) (t : ℕ) → rubbed (ts ++ t ∷ []) ≡ ts
rubbed_push ts t = take_at ts (t ∷ []) (length (ts ++ t ∷ []) - 1) (omega (arith, length_push ts t))

-- h, and then a key for each of the tokens
keys : History Open → List ℕ → History Open
keys h [] = h
keys h (t ∷ ts) = keys (Key h t) ts

keyed_keys : (h : History Open) (ts : List ℕ) → length (keyed h) + length ts ≤ room → keyed (keys h ts) ≡ keyed h ++ ts
unfolding keys
keyed_keys h [] l = sym (append-nil (keyed h))
keyed_keys h (t ∷ ts) l =
    let e = added_below (keyed h) t (omega arith) in
    let n : length (keyed (Key h t)) ≡ length (keyed h) + 1 = ap length e ∙ length_push (keyed h) t in
    keyed_keys (Key h t) ts (omega arith) ∙ ap (λ xs. xs ++ ts) e ∙ append_assoc (keyed h) (t ∷ []) ts

line_history : (l : Line) → (h : History Open) × LineOf h l
line_history l = (keys Start (tokens_of l), sym (keyed_keys Start (tokens_of l) (omega (arith, l.short))))

phrase_history : (p : Phrase) → (h : History Sealed) × PhraseOf h p
phrase_history p = let q = line_history p.line in (Seal q.0, q.1)

pub laws : HistoryLaws room
laws = record {
  short = keyed_short;
  full = (keys Start (replicate 15 0), ap length (keyed_keys Start (replicate 15 0) (omega arith)));
  adds = λ h t l. added_below (keyed h) t l;
  stays = λ h t l. added_full (keyed h) t l;
  undoes = λ h t l. ap rubbed (added_below (keyed h) t l) ∙ rubbed_push (keyed h) t;
  none = λ h e. ap rubbed e;
  wiped = λ h. refl;
  sealing = λ h. refl;
  reading = λ h. refl;
  reopening = λ h. refl;
  lines = line_history;
  phrases = phrase_history;
}
