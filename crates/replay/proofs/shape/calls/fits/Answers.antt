use Rattle.std.proofs.Common.{eqb, rules, tests, ◌∙◌}
use Rattle.std.proofs.lemmas.Iterator.{YieldsList-from_slice, YieldsList-from_zip}
use Rattle.std.proofs.lemmas.Iterator.Search.{all_from_yields_List}
use Rattle.replay.proofs.Laid.{fit_zip}
use Rattle.replay.proofs.shape.calls.fits.Goals as goal

pub returns : goal.returns
returns c =
    let cs = c.args.arguments.now in
    let ss = c.args.shapes.now in
    all_from_yields_List (λ p. eqb p.1.category p.0) c.all.new.self _ c.all.result c.all.ensures.ran (YieldsList-from_zip (YieldsList-from_slice cs cc) (YieldsList-from_slice ss cc)) (λ x b q h. search (rules, tests))
    ∙ fit_zip cs ss c.requires
