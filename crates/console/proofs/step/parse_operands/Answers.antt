use Rattle.std.proofs.Common.{codes, rules}
use Rattle.std.proofs.lemmas.Bool.Decides.{Decides-eqb}
use Rattle.std.proofs.lemmas.Option.{MatchOption-at_some}
use Rattle.std.proofs.lemmas.Slice.Eq.{strip_prefix_is}
use Rattle.console.proofs.step.parse_operands.Goals as goal

pub returns-in-Some-strip_prefix : goal.returns-in-Some-strip_prefix
returns-in-Some-strip_prefix c =
    let found = strip_prefix_is Decides-eqb c.args.line.now (codes "replay") c.strip_prefix-2.result c.strip_prefix-2.ensures.cases in
    (c.in-Some-strip_prefix.text.now, MatchOption-at_some _ _ _ c.in-Some-strip_prefix.is found, search rules)
