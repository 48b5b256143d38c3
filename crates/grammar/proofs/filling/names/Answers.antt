use Rattle.std.proofs.Common.{rules, tests, ◌∙◌}
use Rattle.std.proofs.lemmas.Iterator.{YieldsList-from_slice}
use Rattle.std.proofs.lemmas.Iterator.Search.{any_from_yields_List}
use Rattle.grammar.specs.Entries.{entries}
use Rattle.grammar.specs.Checks.{any, is_part}
use Rattle.grammar.proofs.Scanning.{any_map}
use Rattle.grammar.proofs.filling.names.Goals as goal

pub returns : goal.returns
returns c =
    let cs = c.args.constituents.now in
    let test = any (is_part c.args.k c.args.l) in
    any_from_yields_List (λ x. test (entries x)) _ _ c.any.result c.any.ensures.ran (YieldsList-from_slice cs cc) (λ x b q k. search (rules, tests))
    ∙ any_map test entries cs
