-- What loads is the pack of a well-formed grammar.
use Rattle.std.proofs.Common.{◌≡◌, ℕ, zero, suc, ◌+◌, Bool, true, false, List, [], ◌∷◌, ◌++◌, length, Ok, Err, Result, sym, refl, ap, ◌∙◌, subst, append_assoc}
use Rattle.std.proofs.lemmas.Bool.{cond_both}
use Rattle.grammar.specs.Grammars.{GrammarModel}
use Rattle.grammar.specs.Formed.{WellFormed}
use Rattle.grammar.specs.Encoding.{encode}
use Rattle.grammar.specs.Commands.{Command, Kind, Category, Start, Production, Constituent, Token, Part, End, Next, next_of, size, is_end}
use Rattle.grammar.specs.Drafts.{Stage, Fresh, Draft, blank, apply, model_of}
use Rattle.grammar.specs.Checks.{filled, all_named, in_limits, allowed, start_fits, operands_fit}
use Rattle.grammar.specs.Stops.{Stop, stop_at, Grammar}
use Rattle.grammar.specs.Loads.{Outcome, need, step, finish, after_step, after_next, run, load_of}
use Rattle.grammar.specs.Commands.{Bytes}
use Rattle.grammar.proofs.Reading.{bytes, Fits, Read, reads}
use Rattle.grammar.proofs.Accepting.{Passes}
use Rattle.grammar.proofs.Keeping.{Sound, Written, moved, ended}

abbrev Good : List ℕ → Outcome → Type 0
Good p (Err e) = Unit {0}
Good p (Ok g) = WellFormed g × (encode g ≡ p)

need_good : {X : Type 0} (P : Result X Stop → Type 0) (b : Bool) (k f : ℕ) (r : Result X Stop) → P (Err (stop_at k f Grammar)) → (b ≡ true → P r) → P (need b k f r)
need_good P b k f r no_way h = cond_both b r (Err (stop_at k f Grammar)) P h (λ _. no_way)

step_good : (P : Result (Stage × Draft) Stop → Type 0) → ((e : Stop) → P (Err e)) → (at : ℕ) (s : Stage) (d : Draft) (c : Command)
    → (Passes s d c → P (Ok (apply at s d c))) → P (step at s d c)
step_good P stops at s d c h =
    need_good P (filled s d c) 6 _ _ (stops _) (λ e6.
    need_good P (all_named s d c) 7 _ _ (stops _) (λ e7.
    need_good P (in_limits s d c) 4 _ _ (stops _) (λ e4.
    need_good P (allowed s d c) 3 _ _ (stops _) (λ e3.
    need_good P (start_fits d c) 8 _ _ (stops _) (λ e8.
    need_good P (operands_fit d c) 5 _ _ (stops _) (λ e5.
    h (record { p6 = e6; p7 = e7; p4 = e4; p3 = e3; p8 = e8; p5 = e5 })))))))

abbrev Runs : List ℕ → (ℕ → Stage → Draft → List ℕ → Outcome) → Type 0
Runs p go = (at : ℕ) (s : Stage) (d : Draft) (q : List ℕ) → Bytes q → Sound s d → Written s d ++ q ≡ p → Good p (go at s d q)

finish_good : (p : List ℕ) (at : ℕ) (d : Draft) (w rest : List ℕ) → WellFormed (model_of d) × (encode (model_of d) ≡ w ++ 8 ∷ []) → w ++ 8 ∷ rest ≡ p
    → Good p (finish at d rest)
finish_good p at d w [] h e = (h.0, h.1 ∙ e)
finish_good p at d w (b ∷ bs) h e = tt

onward_good : (p : List ℕ) (go : ℕ → Stage → Draft → List ℕ → Outcome) → Runs p go → (at : ℕ) (s : Stage) (d : Draft) (c : Command) (rest : List ℕ)
    → is_end c ≡ false → Passes s d c → Fits c → Bytes rest → Sound s d → Written s d ++ (bytes c ++ rest) ≡ p
    → Good p (go (at + size c) (apply at s d c).0 (apply at s d c).1 rest)
onward_good p go ih at s d c rest n h f b k e =
    let m = moved at s d c n h f k in
    ih (at + size c) (apply at s d c).0 (apply at s d c).1 rest b m.sound (ap (λ u. u ++ rest) m.written ∙ append_assoc (Written s d) (bytes c) rest ∙ e)

passed_good : (p : List ℕ) (go : ℕ → Stage → Draft → List ℕ → Outcome) → Runs p go → (at : ℕ) (s : Stage) (d : Draft) (c : Command) (rest : List ℕ)
    → Fits c → Bytes rest → Sound s d → Written s d ++ (bytes c ++ rest) ≡ p → Passes s d c
    → Good p (after_step go at c rest (Ok (apply at s d c)))
passed_good p go ih at s d (Kind k) rest f b n e h = onward_good p go ih at s d (Kind k) rest refl h f b n e
passed_good p go ih at s d (Category x) rest f b n e h = onward_good p go ih at s d (Category x) rest refl h f b n e
passed_good p go ih at s d (Start x) rest f b n e h = onward_good p go ih at s d (Start x) rest refl h f b n e
passed_good p go ih at s d (Production o) rest f b n e h = onward_good p go ih at s d (Production o) rest refl h f b n e
passed_good p go ih at s d Constituent rest f b n e h = onward_good p go ih at s d Constituent rest refl h f b n e
passed_good p go ih at s d (Token t) rest f b n e h = onward_good p go ih at s d (Token t) rest refl h f b n e
passed_good p go ih at s d (Part k l) rest f b n e h = onward_good p go ih at s d (Part k l) rest refl h f b n e
passed_good p go ih at s d End rest f b n e h = finish_good p (at + 1) (apply at s d End).1 (Written s d) rest (ended at s d h n) e

next_good : (p : List ℕ) (go : ℕ → Stage → Draft → List ℕ → Outcome) → Runs p go → (at : ℕ) (s : Stage) (d : Draft) (q : List ℕ) (x : Next)
    → Read q x → Sound s d → Written s d ++ q ≡ p → Good p (after_next go at s d x)
next_good p go ih at s d q (Err u) r h e = tt
next_good p go ih at s d q (Ok x) r h e =
    step_good (λ y. Good p (after_step go at x.0 x.1 y)) (λ _. tt) at s d x.0
    (passed_good p go ih at s d x.0 x.1 r.1 r.2 h (ap (λ u. Written s d ++ u) (sym r.0) ∙ e))

run_good : (p : List ℕ) (n : ℕ) → Runs p (run n)
run_good p zero at s d q b h e = tt
run_good p (suc n) at s d q b h e = next_good p (run n) (run_good p n) at s d q (next_of q) (reads q b) h e

pub loads_are_packs : (p : List ℕ) (g : GrammarModel) → Bytes p → load_of p ≡ Ok g → WellFormed g × (encode g ≡ p)
loads_are_packs p g b e = subst (Good p) e (run_good p (length p) 0 Fresh blank p b (refl, refl) refl)
