use Rattle.std.proofs.Common.{◌≡◌, length, sym, ap, ◌∙◌, ap₂}
use Rattle.std.proofs.lemmas.List.{length-map}
use Rattle.std.proofs.lemmas.Result.{IfOk-weaker}
use Rattle.grammar.specs.Held.{production_model}
use Rattle.grammar.specs.Model.{model}
use Rattle.console.specs.Texts.{counts_text}
use Rattle.console.proofs.text.pack_line.Goals as goal

pub returns : goal.returns
returns c =
    let m = model c.args.grammar.now in
    let productions : length c.productions.result.now ≡ length m.productions =
    sym (length-map c.productions.result.now production_model) ∙ ap length c.productions.ensures in
    IfOk-weaker c.format.result _ _ (λ s e. e
    ∙ ap₂ (λ k n. counts_text k n c.start-start.result (length c.productions.result.now)) c.kind-kind.ensures (ap length c.dimensions.ensures)
    ∙ ap₂ (λ s n. counts_text m.kind (length m.dimensions) s n) c.start-start.ensures productions) c.format.ensures.ok
