use Rattle.std.proofs.Common.{◌≡◌, ◌++◌, length, Err, ◌∙◌, arith}
use Rattle.std.proofs.lemmas.Result.{err_from_is_err_and}
use Rattle.grammar.specs.Held.{production_model}
use Rattle.grammar.specs.Model.{model}
use Rattle.grammar.proofs.Formed.{formed_is}
use Rattle.grammar.proofs.Typed.{typed_bytes}
use Rattle.replay.specs.Stops.{Stop}
use Rattle.replay.specs.Replays.{run}
use Rattle.replay.specs.Stacks.{does, stack_of}
use Rattle.replay.proofs.Running.{next_is, next_stops, can_perform}
use Rattle.replay.proofs.replaying.run_all.Goals as goal
use Rattle.replay.proofs.replaying.run_all.Goals.{In-Some}

-- the command that is next
module _ (c : In-Some) where
  stops : (o : Stop) → does (model c.args.grammar.now) c.in-Some.command.now (length c.in-Some.before.now) (stack_of c.loop-before.stack) ≡ Err o
      → run (model c.args.grammar.now) 0 c.args.commands.now ≡ Err o
  stops o =
      let i = c.loop-before.invariant in
      let n = c.in-Some.ensures.cases in
      next_stops (model c.args.grammar.now) c.args.commands.now c.loop-before.rest.now i.1 c.in-Some.before.now c.in-Some.command.now (stack_of c.loop-before.stack)
      i.2 i.3 n.0 n.1 n.2 o i.0

pub returns-in_err-production : goal.returns-in_err-production
returns-in_err-production c =
    let p = err_from_is_err_and c.from_residual.result c.from_residual.ensures.1 in
    rw (p.1, p.2) (stops (goal.at.returns-in_err-production c).In-Some _ (c.in_err-production.ensures (stack_of c.loop-before.stack)))

pub perform-requires-clause-filled : goal.perform-requires-clause-filled
perform-requires-clause-filled c =
    let g = c.args.grammar.now in
    let i = c.loop-before.invariant in
    (can_perform (model g) c.args.commands.now c.loop-before.rest.now i.1 (stack_of c.loop-before.stack) i.2 i.3
    (formed_is (model g) g.well_formed) (typed_bytes c.args.commands.now c.type_inv.commands) c.requires i.0
    (length c.in-Some.before.now) c.in-Some.command.now (production_model c.in_ok-production.production.now) c.in_ok-production.ensures).1

pub returns-in_err-perform : goal.returns-in_err-perform
returns-in_err-perform c =
    let p = err_from_is_err_and c.from_residual-in_err-perform.result c.from_residual-in_err-perform.ensures.1 in
    rw (p.1, p.2)
    (stops (goal.at.returns-in_err-perform c).In-Some _ (c.in_ok-production.ensures.performs (stack_of c.loop-before.stack) ∙ c.in_err-perform.ensures))

pub loop-before-preserved : goal.loop-before-preserved
loop-before-preserved c =
    let i = c.loop-before.invariant in
    let n = c.in-Some.ensures.cases in
    let next = next_is (model c.args.grammar.now) c.args.commands.now c.loop-before.rest.now i.1 c.in-Some.before.now c.in-Some.command.now (stack_of c.loop-before.stack)
    i.2 i.3 n.0 n.1 n.2 in
    (omega (arith, n.2, i.0), c.in-Some.command.now ++ i.1, next.0, next.1 ∙ c.in_ok-production.ensures.performs (stack_of c.loop-before.stack) ∙ c.in_ok-perform.ensures)
