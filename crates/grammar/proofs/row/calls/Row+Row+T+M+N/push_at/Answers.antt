use Rattle.std.proofs.Common.{◌≡◌, ℕ, ◌<◌, List, [], ◌∷◌, ◌++◌, length, map, take, get_or, set, sym, ap, ◌∙◌, arith}
use Rattle.std.proofs.Math.Seq.{take-set-lt}
use Rattle.std.proofs.lemmas.List.{map-set, get_or-map, get_or-take, length-take-le}
use Rattle.grammar.specs.Entries.{entries}
use Rattle.grammar.specs.declared.row.Row.{Row}
use Rattle.grammar.proofs.row.calls.Row+Row+T+M+N.push_at.Goals as goal

pub returns : goal.returns
returns g c =
    let s = c.args.self.now in
    let i = c.args.i in
    let E : Row g.row.T.Denot g.row.M → List g.row.T.Denot = entries in
    let held = take s.count s.cells in
    let old = c.index-self-i.result in
    let new = c.push.new.self in
    let inside : i < s.count = omega (arith, c.requires.inside, length-take-le s.count s.cells (omega (arith, s.long, s.most))) in
    let there : get_or (map E held) i [] ≡ E (get_or s.cells i old) = get_or-map E held i old [] c.requires.inside ∙ ap E (get_or-take s.count s.cells i old inside) in
    ap (map E) (take-set-lt s.count s.cells i new inside) ∙ map-set E held i new ∙ ap (set (map E held) i) (c.push.ensures ∙ ap (λ q. q ++ c.args.x ∷ []) (sym there))
