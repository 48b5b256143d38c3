use Rattle.std.proofs.Common.{rules, ◌++◌, drop, replicate, ap, ◌∙◌}
use Rattle.std.proofs.lemmas.List.{length-take-le}
use Rattle.agenda.specs.Cells.{blank_cell}
use Rattle.agenda.proofs.Parts.{all_same}
use Rattle.agenda.proofs.cells.blank.Goals as goal

pub returns : goal.returns
returns g c =
    let cells = c.args.cells.now in
    let blank = blank_cell c.args.fill in
    let told = c.fill_with.ensures in
    let same = all_same _ _ blank (λ x q step. search rules) c.fill_with.new.self told.ran.0 told.ran.1 in
    ap (λ xs. xs ++ drop c.args.n cells) (same ∙ ap (λ k. replicate k blank) (told.len ∙ length-take-le c.args.n cells c.requires))
