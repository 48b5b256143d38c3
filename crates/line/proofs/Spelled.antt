-- One call more in a run: the history that the calls spell, what is held, and the counts.
use Rattle.std.proofs.Common.{◌≡◌, ℕ, ◌+◌, ◌<◌, ◌≤◌, List, [], ◌∷◌, ◌++◌, length, get_or, take, refl, ap, ◌∙◌, arith}
use Rattle.std.proofs.lemmas.List.{take_more}
use Rattle.line.specs.Stops.{Done, Stop}
use Rattle.line.specs.Runs.{Past, OfLine, OfPhrase, Reply, Made, WhileSealed, WhileOpen, HeldOf, keyed_in, content_of, replied, made, made_all, spelled, stops_in, calls_in, stop_count, skip_count}
use Rattle.line.specs.declared.run.Call.{Call}
use Rattle.line.specs.declared.run.Call.TheVariants.{Key, Rub, Wipe, Seal, Reopen}
use Rattle.line.specs.declared.run.Held.{Held}

made_push : (p : Past) (cs : List Call) (c : Call) → made_all p (cs ++ c ∷ []) ≡ made (made_all p cs) c
made_push p [] c = refl
made_push p (d ∷ cs) c = made_push (made p d) cs c

pub spelled_more : (cs : List Call) (i : ℕ) (c d : Call) → i < length cs → get_or cs i d ≡ c → spelled (take (i + 1) cs) ≡ made (spelled (take i cs)) c
spelled_more cs i c d l is = ap spelled (take_more cs i d l) ∙ made_push _ (take i cs) (get_or cs i d) ∙ ap (made (spelled (take i cs))) is

stops_more : (p : Past) (c : Call) → stops_in (made p c) ≡ stops_in p + stop_count (replied (keyed_in p) c)
stops_more (OfLine h) (Key t) = refl
stops_more (OfLine h) Rub = refl
stops_more (OfLine h) Wipe = omega arith
stops_more (OfLine h) Seal = omega arith
stops_more (OfLine h) Reopen = omega arith
stops_more (OfPhrase h) (Key t) = omega arith
stops_more (OfPhrase h) Rub = omega arith
stops_more (OfPhrase h) Wipe = omega arith
stops_more (OfPhrase h) Seal = omega arith
stops_more (OfPhrase h) Reopen = omega arith

calls_more : (p : Past) (c : Call) → skip_count (replied (keyed_in p) c) + calls_in (made p c) ≡ calls_in p + 1
calls_more (OfLine h) (Key t) = omega arith
calls_more (OfLine h) Rub = omega arith
calls_more (OfLine h) Wipe = omega arith
calls_more (OfLine h) Seal = omega arith
calls_more (OfLine h) Reopen = omega arith
calls_more (OfPhrase h) (Key t) = omega arith
calls_more (OfPhrase h) Rub = omega arith
calls_more (OfPhrase h) Wipe = omega arith
calls_more (OfPhrase h) Seal = omega arith
calls_more (OfPhrase h) Reopen = omega arith

one_at_most : (a : Reply) → stop_count a ≤ 1
one_at_most (Made Done) = omega arith
one_at_most (Made (Stop n f)) = omega arith
one_at_most WhileSealed = omega arith
one_at_most WhileOpen = omega arith

-- after i calls, which spell p: x is held, s were stopped, u were not made
pub record Sofar (p : Past) (i : ℕ) (x : Held) (s u : ℕ) : Type 0 where
  pub held : HeldOf p x
  pub stopped : s ≡ stops_in p
  pub unmade : u + calls_in p ≡ i
  pub few : s ≤ i

pub sofar_more : (p q : Past) (c : Call) (i : ℕ) (x y : Held) (s u t v : ℕ) (a : Reply) → Sofar p i x s u
    → q ≡ made p c → a ≡ replied (content_of x) c → HeldOf (made p c) y → t ≡ s + stop_count a → v ≡ u + skip_count a
    → Sofar q (i + 1) y t v
sofar_more p q c i x y s u t v a so spells answer holds more skips =
    let e : a ≡ replied (keyed_in p) c = answer ∙ ap (λ k. replied k c) so.held in
    let f : stop_count a ≡ stop_count (replied (keyed_in p) c) = ap stop_count e in
    let g : skip_count a ≡ skip_count (replied (keyed_in p) c) = ap skip_count e in
    let k = stops_more p c in
    let n = calls_more p c in
    let one = one_at_most a in
    rw spells record { held = holds; stopped = omega (arith, so.stopped); unmade = omega (arith, so.unmade); few = omega (arith, so.few) }
