-- One command of the whole: what is left decides, and the offset is what has been taken.
use Rattle.std.proofs.Common.{◌≡◌, Ok, Err, Result, sym, ◌∙◌, subst}
use Rattle.std.proofs.lemmas.Result.{MatchResult-at_ok, err_from_is_err_and}
use Rattle.std.specs.Result.{MatchResult, IsErrAnd}
use Rattle.grammar.specs.Loaders.{draft_of}
use Rattle.grammar.proofs.Runs.{load_stop, next_less, shorter_left, run_left}
use Rattle.grammar.proofs.taking.take_all.Goals as goal

-- an Ok after map_err was one before it
ok_before : {T E F : Type 0} (Q : E → F → Type 0) (r : Result T E) (q : Result T F) (x : T) → q ≡ Ok x
    → MatchResult r (λ y. q ≡ Ok y) (λ e. IsErrAnd q (Q e)) → r ≡ Ok x
ok_before Q (Ok y) q x e h = cc
ok_before Q (Err u) q x e h = absurd (subst (λ r. IsErrAnd r (Q u)) e h)

pub loop-command-smaller : goal.loop-command-smaller
loop-command-smaller c =
    let read = ok_before _ _ _ _ c.in_ok-command.was c.map_err.ensures.cases in
    let next = MatchResult-at_ok _ _ _ read c.next_command.ensures in
    next_less c.loop-command.rest.now c.in_ok-command.more.now c.in_ok-command.command next

pub loop-command-preserved : goal.loop-command-preserved
loop-command-preserved c =
    let l = c.loop-command in
    let m = c.take.new.self in
    let read = ok_before _ _ _ _ c.in_ok-command.was c.map_err.ensures.cases in
    let next = MatchResult-at_ok _ _ _ read c.next_command.ensures in
    let left = shorter_left c.args.pack.now l.rest.now c.in_ok-command.more.now c.in_ok-command.command l.invariant.0 next in (
      left,
      run_left c.args.pack.now l.rest.now c.in_ok-command.more.now c.in_ok-command.command l.invariant.0 next
          l.loader.stage (draft_of l.loader) (m.stage, draft_of m) l.invariant.1 c.in_ok-take.ensures.stepped (sym c.if-is_end.ensures),
    )

pub returns-in_err-take-clause-value : goal.returns-in_err-take-clause-value
returns-in_err-take-clause-value c =
    let l = c.loop-command in
    let read = ok_before _ _ _ _ c.in_ok-command.was c.map_err.ensures.cases in
    let next = MatchResult-at_ok _ _ _ read c.next_command.ensures in
    let p = err_from_is_err_and c.from_residual-in_err-take.result c.from_residual-in_err-take.ensures.1 in
    let stopped =
    l.invariant.1
    ∙ load_stop _ l.loader.stage (draft_of l.loader) l.rest.now c.in_ok-command.more.now c.in_ok-command.command _ next c.in_err-take.ensures.stepped in
    rw (p.1, p.2) stopped
