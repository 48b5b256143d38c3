-- A pack with a reason to be stopped is stopped by it.
use Rattle.std.proofs.Common.{◌≡◌, ℕ, ◌+◌, Bool, true, false, List, ◌∷◌, ◌++◌, length, Err, Result, sym, refl, ap, ◌∙◌, append_assoc, length-append}
use Rattle.std.proofs.lemmas.Bool.{cond-true, cond-false}
use Rattle.grammar.specs.Stops.{Stop, stop_at, Grammar}
use Rattle.grammar.specs.Commands.{Command, End, Incomplete, Unknown, next_of, size, bytes}
use Rattle.grammar.specs.Drafts.{Stage, Draft, apply}
use Rattle.grammar.specs.Checks.{filled, all_named, in_limits, allowed, start_fits, operands_fit}
use Rattle.grammar.specs.Loads.{need, step, run, load_of}
use Rattle.grammar.specs.Stopping.{Reached, nothing, command, Refused, by_6, by_7, by_4, by_3, by_8, by_5, Because, incomplete, unknown, refused, trailing, Stopped}
use Rattle.grammar.proofs.Reading.{read_back}
use Rattle.grammar.proofs.Accepting.{step_passed}
use Rattle.grammar.proofs.Runs.{load_more, load_finish, load_stop, load_unread}
use Rattle.grammar.proofs.Stopping.{size_is}

-- a load of the whole goes on as a load of what is left
reached_runs : {w : List ℕ} {s : Stage} {d : Draft} → Reached w s d → (q : List ℕ) → load_of (w ++ q) ≡ run (length q) (length w) s d q
reached_runs nothing q = refl
reached_runs (command w s d c r h e) q =
    let x = apply (length w) s d c in
    let at : length w + size c ≡ length (w ++ bytes c) = ap (λ n. length w + n) (sym (size_is c)) ∙ sym (length-append w (bytes c)) in
    ap load_of (append_assoc w (bytes c) q)
    ∙ reached_runs r (bytes c ++ q)
    ∙ load_more (length w) s d (bytes c ++ q) q c x (read_back c q) (step_passed (length w) s d c h) e
    ∙ ap (λ n. run (length q) n x.0 x.1 q) at

unmet : {X : Type 0} (b : Bool) (k f : ℕ) (r : Result X Stop) → b ≡ false → need b k f r ≡ Err (stop_at k f Grammar)
unmet b k f r e = cond-false b r (Err (stop_at k f Grammar)) e

pub met : {X : Type 0} (b : Bool) (k f : ℕ) (r : Result X Stop) → b ≡ true → need b k f r ≡ r
met b k f r e = cond-true b r (Err (stop_at k f Grammar)) e

pub refused_step : (at : ℕ) (s : Stage) (d : Draft) (c : Command) (o : Stop) → Refused at s d c o → step at s d c ≡ Err o
refused_step at s d c o (by_6 n) = unmet (filled s d c) _ _ _ n
refused_step at s d c o (by_7 e6 n) = met (filled s d c) _ _ _ e6 ∙ unmet (all_named s d c) _ _ _ n
refused_step at s d c o (by_4 e6 e7 n) = met (filled s d c) _ _ _ e6 ∙ met (all_named s d c) _ _ _ e7 ∙ unmet (in_limits s d c) _ _ _ n
refused_step at s d c o (by_3 e6 e7 e4 n) =
    met (filled s d c) _ _ _ e6 ∙ met (all_named s d c) _ _ _ e7 ∙ met (in_limits s d c) _ _ _ e4 ∙ unmet (allowed s d c) _ _ _ n
refused_step at s d c o (by_8 e6 e7 e4 e3 n) =
    met (filled s d c) _ _ _ e6 ∙ met (all_named s d c) _ _ _ e7 ∙ met (in_limits s d c) _ _ _ e4 ∙ met (allowed s d c) _ _ _ e3
    ∙ unmet (start_fits d c) _ _ _ n
refused_step at s d c o (by_5 e6 e7 e4 e3 e8 n) =
    met (filled s d c) _ _ _ e6 ∙ met (all_named s d c) _ _ _ e7 ∙ met (in_limits s d c) _ _ _ e4 ∙ met (allowed s d c) _ _ _ e3
    ∙ met (start_fits d c) _ _ _ e8 ∙ unmet (operands_fit d c) _ _ _ n

because_runs : (at : ℕ) (s : Stage) (d : Draft) (q : List ℕ) (o : Stop) → Because at s d q o → run (length q) at s d q ≡ Err o
because_runs at s d q o (incomplete e) = load_unread at s d q Incomplete e
because_runs at s d q o (unknown e) = load_unread at s d q Unknown e
because_runs at s d q o (refused c rest x e r) =
    load_stop at s d q rest c o (ap next_of e ∙ read_back c rest) (refused_step at s d c o r)
because_runs at s d q o (trailing b rest e h) =
    load_finish at s d q (b ∷ rest) End (apply at s d End) (ap next_of e ∙ read_back End (b ∷ rest)) (step_passed at s d End h) refl

pub stopped_is : (p : List ℕ) (o : Stop) → Stopped p o → load_of p ≡ Err o
stopped_is p o h =
    ap load_of (sym h.whole) ∙ reached_runs h.reached h.behind ∙ because_runs (length h.before) h.stage h.draft h.behind o h.because
