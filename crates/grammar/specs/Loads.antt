-- What a whole pack loads to. Assumes nothing.
--   step       one command: the checks in their order, and then its effect
--   load_of p  the grammar that the pack p is taken for, or the stop
use Rattle.std.specs.Prelude.{ℕ, zero, suc, ◌+◌, Bool, cond, List, [], ◌∷◌, length, Ok, Err, Result}
use Rattle.grammar.specs.Grammars.{GrammarModel}
use Rattle.grammar.specs.Stops.{Stop, stop_at, Reader, Grammar}
use Rattle.grammar.specs.Commands.{Command, Unread, Incomplete, Unknown, Next, next_of, size, is_end}
use Rattle.grammar.specs.Drafts.{Stage, Fresh, Draft, blank, apply, model_of}
use Rattle.grammar.specs.Checks.{filled, all_named, in_limits, allowed, start_fits, operands_fit}

abbrev pub Outcome : Type 0
Outcome = Result GrammarModel Stop

-- go on if the test is met, and else stop
abbrev pub need : {X : Type 0} → Bool → ℕ → ℕ → Result X Stop → Result X Stop
need met number figure go_on = cond met go_on (Err (stop_at number figure Grammar))

-- one command at the offset at
abbrev pub step : ℕ → Stage → Draft → Command → Result (Stage × Draft) Stop
step at s d c =
    need (filled s d c) 6 d.opened.offset
    (need (all_named s d c) 7 d.opened.offset
    (need (in_limits s d c) 4 at
    (need (allowed s d c) 3 at
    (need (start_fits d c) 8 at
    (need (operands_fit d c) 5 at
    (Ok (apply at s d c)))))))

-- nothing may follow END
abbrev pub finish : ℕ → Draft → List ℕ → Outcome
finish at d [] = Ok (model_of d)
finish at d (b ∷ bs) = Err (stop_at 9 at Grammar)

abbrev pub after_step : (ℕ → Stage → Draft → List ℕ → Outcome) → ℕ → Command → List ℕ → Result (Stage × Draft) Stop → Outcome
after_step go at c rest (Err e) = Err e
after_step go at c rest (Ok x) = cond (is_end c) (finish (at + size c) x.1 rest) (go (at + size c) x.0 x.1 rest)

-- the stop of bytes that are no command
abbrev pub unread : ℕ → Unread → Stop
unread at Incomplete = stop_at 1 at Reader
unread at Unknown = stop_at 2 at Reader

abbrev pub after_next : (ℕ → Stage → Draft → List ℕ → Outcome) → ℕ → Stage → Draft → Next → Outcome
after_next go at s d (Err u) = Err (unread at u)
after_next go at s d (Ok x) = after_step go at x.0 x.1 (step at s d x.0)

-- at most n commands, from the offset at
abbrev pub run : ℕ → ℕ → Stage → Draft → List ℕ → Outcome
run zero at s d p = Err (stop_at 1 at Reader)
run (suc n) at s d p = after_next (run n) at s d (next_of p)

-- each command has a byte, so the length is enough
abbrev pub load_of : List ℕ → Outcome
load_of p = run (length p) 0 Fresh blank p
