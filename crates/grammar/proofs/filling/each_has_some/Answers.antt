use Rattle.std.proofs.Common.{rules, tests, sym, ◌∙◌}
use Rattle.std.proofs.lemmas.Iterator.{YieldsList-from_slice}
use Rattle.std.proofs.lemmas.Iterator.Search.{all_from_yields_List}
use Rattle.std.proofs.lemmas.List.Folds.{list_all-map}
use Rattle.grammar.specs.Entries.{entries}
use Rattle.grammar.specs.Checks.{has_some}
use Rattle.grammar.proofs.Scanning.{has_length}
use Rattle.grammar.proofs.filling.each_has_some.Goals as goal

pub returns : goal.returns
returns c =
    let cs = c.args.constituents.now in
    all_from_yields_List (λ x. has_some (entries x)) _ _ _ c.all.ensures.ran (YieldsList-from_slice cs cc) (λ x b q k. search (rules, tests, has_length))
    ∙ sym (list_all-map has_some entries cs)
