-- Each stop has its reason.
use Rattle.std.proofs.Common.{◌≡◌, ℕ, zero, suc, ◌+◌, ◌≤◌, false, List, [], ◌∷◌, ◌++◌, length, Ok, Err, Result, sym, refl, ap, ◌∙◌, subst, append_assoc, arith, length-append}
use Rattle.std.proofs.lemmas.Bool.{cond_both}
use Rattle.grammar.specs.Commands.{Command, Kind, Category, Start, Production, Constituent, Token, Part, End, Incomplete, Unknown, Next, next_of, size, is_end, bytes}
use Rattle.grammar.specs.Drafts.{Stage, Fresh, Draft, blank, apply}
use Rattle.grammar.specs.Checks.{filled, all_named, in_limits, allowed, start_fits, operands_fit, Passes}
use Rattle.grammar.specs.Stops.{Stop, stop_at, Grammar}
use Rattle.grammar.specs.Loads.{Outcome, step, finish, after_step, after_next, run, load_of}
use Rattle.grammar.specs.Stopping.{Reached, nothing, command, Refused, by_6, by_7, by_4, by_3, by_8, by_5, Because, incomplete, unknown, refused, trailing, Stopped}
use Rattle.grammar.specs.Commands.{Bytes}
use Rattle.grammar.proofs.Reading.{Read, reads, shorter}

abbrev Why : List ℕ → Outcome → Type 0
Why p (Ok g) = Unit {0}
Why p (Err o) = Stopped p o

pub size_is : (c : Command) → length (bytes c) ≡ size c
size_is (Kind k) = refl
size_is (Category x) = refl
size_is (Start x) = refl
size_is (Production o) = refl
size_is Constituent = refl
size_is (Token t) = refl
size_is (Part k l) = refl
size_is End = refl

step_why : (P : Result (Stage × Draft) Stop → Type 0) (at : ℕ) (s : Stage) (d : Draft) (c : Command)
    → ((o : Stop) → Refused at s d c o → P (Err o)) → (Passes s d c → P (Ok (apply at s d c))) → P (step at s d c)
step_why P at s d c no_way h =
    cond_both (filled s d c) _ _ P (λ e6.
    cond_both (all_named s d c) _ _ P (λ e7.
    cond_both (in_limits s d c) _ _ P (λ e4.
    cond_both (allowed s d c) _ _ P (λ e3.
    cond_both (start_fits d c) _ _ P (λ e8.
    cond_both (operands_fit d c) _ _ P (λ e5. h (record { p6 = e6; p7 = e7; p4 = e4; p3 = e3; p8 = e8; p5 = e5 }))
    (λ n. no_way (stop_at 5 at Grammar) (by_5 e6 e7 e4 e3 e8 n)))
    (λ n. no_way (stop_at 8 at Grammar) (by_8 e6 e7 e4 e3 n)))
    (λ n. no_way (stop_at 3 at Grammar) (by_3 e6 e7 e4 n)))
    (λ n. no_way (stop_at 4 at Grammar) (by_4 e6 e7 n)))
    (λ n. no_way (stop_at 7 d.opened.offset Grammar) (by_7 e6 n)))
    (λ n. no_way (stop_at 6 d.opened.offset Grammar) (by_6 n))

stopped : (p w q : List ℕ) (s : Stage) (d : Draft) (o : Stop) → w ++ q ≡ p → Reached w s d → Because (length w) s d q o → Stopped p o
stopped p w q s d o e r b = record { before = w; behind = q; whole = e; stage = s; draft = d; reached = r; because = b }

abbrev Runs : List ℕ → ℕ → Type 0
Runs p n = (w q : List ℕ) (s : Stage) (d : Draft) → length q ≤ n → Bytes q → Reached w s d → w ++ q ≡ p → Why p (run n (length w) s d q)

finish_why : (p w rest : List ℕ) (s : Stage) (d : Draft) → Reached w s d → w ++ 8 ∷ rest ≡ p → Passes s d End
    → Why p (finish (length w + 1) (apply (length w) s d End).1 rest)
finish_why p w [] s d r e h = tt
finish_why p w (b ∷ bs) s d r e h = stopped p w (8 ∷ b ∷ bs) s d (stop_at 9 (length w + 1) Grammar) e r (trailing b bs refl h)

onward_why : (p : List ℕ) (n : ℕ) → Runs p n → (w rest : List ℕ) (s : Stage) (d : Draft) (c : Command) → length (bytes c ++ rest) ≤ suc n → Bytes rest
    → Reached w s d → w ++ (bytes c ++ rest) ≡ p → Passes s d c → is_end c ≡ false
    → Why p (run n (length w + size c) (apply (length w) s d c).0 (apply (length w) s d c).1 rest)
onward_why p n ih w rest s d c l b r e h k =
    let q : length (w ++ bytes c) ≡ length w + size c = length-append w (bytes c) ∙ ap (λ x. length w + x) (size_is c) in
    subst (λ a. Why p (run n a (apply (length w) s d c).0 (apply (length w) s d c).1 rest)) q
    (ih (w ++ bytes c) rest (apply (length w) s d c).0 (apply (length w) s d c).1 (omega (arith, shorter c rest)) b (command w s d c r h k)
    (append_assoc w (bytes c) rest ∙ e))

passed_why : (p : List ℕ) (n : ℕ) → Runs p n → (w rest : List ℕ) (s : Stage) (d : Draft) (c : Command) → length (bytes c ++ rest) ≤ suc n → Bytes rest
    → Reached w s d → w ++ (bytes c ++ rest) ≡ p → Passes s d c → Why p (after_step (run n) (length w) c rest (Ok (apply (length w) s d c)))
passed_why p n ih w rest s d (Kind k) l b r e h = onward_why p n ih w rest s d (Kind k) l b r e h refl
passed_why p n ih w rest s d (Category x) l b r e h = onward_why p n ih w rest s d (Category x) l b r e h refl
passed_why p n ih w rest s d (Start x) l b r e h = onward_why p n ih w rest s d (Start x) l b r e h refl
passed_why p n ih w rest s d (Production o) l b r e h = onward_why p n ih w rest s d (Production o) l b r e h refl
passed_why p n ih w rest s d Constituent l b r e h = onward_why p n ih w rest s d Constituent l b r e h refl
passed_why p n ih w rest s d (Token t) l b r e h = onward_why p n ih w rest s d (Token t) l b r e h refl
passed_why p n ih w rest s d (Part k m) l b r e h = onward_why p n ih w rest s d (Part k m) l b r e h refl
passed_why p n ih w rest s d End l b r e h = finish_why p w rest s d r e h

next_why : (p : List ℕ) (n : ℕ) → Runs p n → (w q : List ℕ) (s : Stage) (d : Draft) (x : Next) → next_of q ≡ x → Read q x → length q ≤ suc n
    → Reached w s d → w ++ q ≡ p → Why p (after_next (run n) (length w) s d x)
next_why p n ih w q s d (Err Incomplete) t f l r e = stopped p w q s d _ e r (incomplete t)
next_why p n ih w q s d (Err Unknown) t f l r e = stopped p w q s d _ e r (unknown t)
next_why p n ih w q s d (Ok x) t f l r e =
    let same : length q ≡ length (bytes x.0 ++ x.1) = ap length f.0 in
    step_why (λ y. Why p (after_step (run n) (length w) x.0 x.1 y)) (length w) s d x.0
    (λ o no_way. stopped p w q s d o e r (refused x.0 x.1 o f.0 no_way))
    (passed_why p n ih w x.1 s d x.0 (omega arith) f.2 r (ap (λ u. w ++ u) (sym f.0) ∙ e))

run_why : (p : List ℕ) (n : ℕ) → Runs p n
run_why p zero w [] s d l b r e = stopped p w [] s d _ e r (incomplete refl)
run_why p zero w (a ∷ q) s d l b r e = absurd (omega arith)
run_why p (suc n) w q s d l b r e = next_why p n (run_why p n) w q s d (next_of q) refl (reads q b) l r e

pub stops_are_met : (p : List ℕ) (o : Stop) → Bytes p → load_of p ≡ Err o → Stopped p o
stops_are_met p o b e = subst (Why p) e (run_why p (length p) [] p Fresh blank (omega arith) b nothing refl)
