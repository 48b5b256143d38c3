use Rattle.std.proofs.Common.{◌≡◌, ℕ, suc, ◌+◌, Bool, rules, tests, map, get_or, ap, ◌∙◌, arith}
use Rattle.std.proofs.lemmas.Iterator.{YieldsList-from_slice}
use Rattle.std.proofs.lemmas.Iterator.Consumers.{YieldsList-from_enumerate}
use Rattle.std.proofs.lemmas.Iterator.Search.{all_from_yields_List}
use Rattle.grammar.specs.Entries.{entries}
use Rattle.grammar.specs.Grammars.{dimension}
use Rattle.grammar.specs.Checks.{all_below, named}
use Rattle.grammar.proofs.Scanning.{all_numbered}
use Rattle.grammar.proofs.filling.names_each.Goals as goal

pub returns : goal.returns
returns c =
    let cs = map entries c.args.constituents.now in
    let ds = c.args.dimensions.now in
    let xs = c.args.arguments.now in
    let test : ℕ → ℕ → Bool = λ i x. all_below (dimension ds x) (λ j. named (i + 1) (suc j) cs) in
    all_from_yields_List (λ p. test p.0 p.1) _ _ c.all.result c.all.ensures.ran (YieldsList-from_enumerate (YieldsList-from_slice xs cc) cc) (λ x b q h. search (rules, tests))
    ∙ all_numbered test (λ i. all_below (dimension ds (get_or xs i 0)) (λ j. named (suc i) (suc j) cs)) 0 xs
    (λ i. let e : 0 + i + 1 ≡ suc i = omega arith in ap (λ k. all_below (dimension ds (get_or xs i 0)) (λ j. named k (suc j) cs)) e)
