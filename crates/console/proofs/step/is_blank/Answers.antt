use Rattle.std.proofs.Common.{rules, tests, ◌∙◌}
use Rattle.std.proofs.lemmas.Iterator.{YieldsList-from_slice}
use Rattle.std.proofs.lemmas.Iterator.Search.{all_from_yields_List}
use Rattle.console.proofs.Blanks.{space, all_space}
use Rattle.console.proofs.step.is_blank.Goals as goal

pub returns : goal.returns
returns c =
    let line = c.args.line.now in
    all_from_yields_List space _ _ c.all.result c.all.ensures.ran (YieldsList-from_slice line cc) (λ x b q k. search (rules, tests)) ∙ all_space line
