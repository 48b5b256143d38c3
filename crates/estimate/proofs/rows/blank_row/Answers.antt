use Rattle.std.proofs.Common.{rules, replicate, ap, ◌∙◌}
use Rattle.agenda.proofs.Parts.{all_same}
use Rattle.estimate.proofs.rows.blank_row.Goals as goal

pub returns : goal.returns
returns g c =
    let nothing = g.W.Weight.nothing in
    let told = c.fill_with.ensures in
    let same = all_same _ _ nothing (λ x q step. search rules) c.fill_with.new.self told.ran.0 told.ran.1 in
    same ∙ ap (λ k. replicate k nothing) told.len
