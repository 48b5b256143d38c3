use Rattle.std.proofs.Common.{◌≡◌, ◌+◌, ◌-◌, ◌∷◌, drop, ap, ◌∙◌, arith}
use Rattle.std.proofs.lemmas.List.{length-drop, drop-set}
use Rattle.replay.proofs.pile.Pile.push.Goals as goal

pub returns : goal.returns
returns g c =
    let s = c.args.self.now in
    let short = length-drop s.top s.cells in
    let e : s.top - 1 + 1 ≡ s.top = omega (arith, short, c.requires) in
    drop-set s.cells (s.top - 1) c.args.x (omega (arith, short, c.requires)) ∙ ap (λ n. c.args.x ∷ drop n s.cells) e
