use Rattle.std.proofs.Common.{◌∙◌}
use Rattle.weight.specs.NumberValues.{no_number, number_same}
use Rattle.weight.proofs.number.weighing.NumberWeight.none.Goals as goal

pub returns : goal.returns
returns g c =
    let J = g.J.Joining in
    number_same J c.of.result (no_number J) (c.of.ensures ∙ c.NONE.ensures)
