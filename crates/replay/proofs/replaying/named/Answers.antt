use Rattle.std.proofs.Common.{◌∙◌, arith}
use Rattle.grammar.specs.Model.{model}
use Rattle.replay.proofs.Running.{match_ok_or, names, unknown}
use Rattle.replay.proofs.replaying.named.Goals as goal

pub returns : goal.returns
returns c =
    let g = model c.args.grammar.now in
    rw c.ok_or.ensures.value
    (match_ok_or c.get.result _ _ _
    (λ x is. let h = rw is at c.get.ensures.lookup in
    names g c.args.command c.args.at c.productions.result.now c.productions.ensures (omega arith) c.from-number.result (c.from-number.ensures ∙ c.from_be_bytes.ensures)
    x.now h.3.0 h.1)
    (λ is. let h = rw is at c.get.ensures.lookup in
    unknown g c.args.command c.args.at c.productions.result.now c.productions.ensures (omega arith) c.from-number.result (c.from-number.ensures ∙ c.from_be_bytes.ensures)
    h.3))
