use Rattle.std.proofs.Common.{◌≡◌, ℕ, List, length, take, ap, ap₂, sym, ◌∙◌, rules, arith}
use Rattle.replay.specs.Replays.{finish}
use Rattle.replay.specs.Piles.{items}
use Rattle.replay.specs.Shapes.{Shape, laid_out}
use Rattle.replay.proofs.Finishing.{not_one, top}
use Rattle.replay.proofs.stack.Stack.phrase.Goals as goal
use Rattle.replay.proofs.stack.Stack.phrase.Goals.{in_default-via-then-shapes-lt1, in_default-via-else-shapes-lt1+else-shapes-lt2}

pub returns-in_default : goal.returns-in_default
returns-in_default c g room e =
    let ts = items c.args.self.now.tokens in
    ap (λ (ss : List Shape). finish g room (laid_out ss ts)) (sym c.items-shapes.ensures)
    ∙ not_one c.items-shapes.result.now ts g room
    (λ q. elim c.in_default.branch [ in_default-via-then-shapes-lt1 w ↦ search rules | in_default-via-else-shapes-lt1+else-shapes-lt2 w ↦ search rules ])

pub returns : goal.returns
returns c =
    let s = c.args.self.now in
    let one : length c.items-shapes.result.now ≡ 1 = omega (arith, c.in-len1.len_at_least, c.in-len1.len_below) in
    let t = top c.items-shapes.result.now (items s.tokens) one in
    record {
      only = t.0;
      whole = ap (λ (ss : List Shape). laid_out ss (items s.tokens)) (sym c.items-shapes.ensures) ∙ t.1;
      of_start = t.2 ∙ c.if-only-start.false;
      first = ap₂ (λ (n : ℕ) (ts : List ℕ). take n ts) c.first.ensures c.items.ensures ∙ t.3;
    }
