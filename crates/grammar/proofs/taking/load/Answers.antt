use Rattle.std.proofs.Common.{Ok, Err, sym, ap, ◌∙◌}
use Rattle.std.proofs.lemmas.Result.{err_from_is_err_and}
use Rattle.grammar.specs.Drafts.{model_of}
use Rattle.grammar.specs.Loaders.{draft_of}
use Rattle.grammar.specs.Loads.{Outcome}
use Rattle.grammar.proofs.Loading.{loads_are_packs}
use Rattle.grammar.proofs.Formed.{is_formed}
use Rattle.grammar.proofs.Answering.{loaded}
use Rattle.grammar.proofs.taking.load.Goals as goal

pub finish-requires-clause-formed : goal.finish-requires-clause-formed
finish-requires-clause-formed c =
    let m = model_of (draft_of c.in_ok-take_all.field-0) in
    is_formed m (loads_are_packs c.args.pack.now m c.in_ok-take_all.ensures.bytes c.in_ok-take_all.ensures.value.1).0

pub returns-clause-law : goal.returns-clause-law
returns-clause-law c =
    loaded c.args.pack.now c.in_ok-take_all.ensures.bytes (Ok c.finish.result)
    (c.in_ok-take_all.ensures.value.1 ∙ ap {B = Outcome} (λ m. Ok m) (sym c.finish.ensures))

pub returns-in_err-take_all-clause-law : goal.returns-in_err-take_all-clause-law
returns-in_err-take_all-clause-law c =
    let p = err_from_is_err_and c.from_residual.result c.from_residual.ensures.1 in
    rw (p.1, p.2) (loaded c.args.pack.now c.in_err-take_all.ensures.bytes (Err c.in_err-take_all.field-0.0) c.in_err-take_all.ensures.value)
