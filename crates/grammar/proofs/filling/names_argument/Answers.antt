use Rattle.std.proofs.Common.{◌≡◌, suc, ◌+◌, rules, tests, map, ap, ◌∙◌, arith}
use Rattle.std.proofs.lemmas.Iterator.{YieldsList-from_range}
use Rattle.std.proofs.lemmas.Iterator.Search.{all_from_yields_List}
use Rattle.grammar.specs.Entries.{entries}
use Rattle.grammar.specs.Checks.{named}
use Rattle.grammar.proofs.Scanning.{all_range}
use Rattle.grammar.proofs.filling.names_argument.Goals as goal

pub returns : goal.returns
returns c =
    let cs = map entries c.args.constituents.now in
    let k = c.args.k in
    all_from_yields_List (λ j. named k (j + 1) cs) _ _ c.all.result c.all.ensures.ran (YieldsList-from_range 0 c.args.dimension c.args.dimension (cc) (omega arith)) (λ x b q h. search (rules, tests))
    ∙ all_range (λ j. named k (j + 1) cs) (λ j. named k (suc j) cs) 0 c.args.dimension (λ j. let e : 0 + j + 1 ≡ suc j = omega arith in ap (λ n. named k n cs) e)
