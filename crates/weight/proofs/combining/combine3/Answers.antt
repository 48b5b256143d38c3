use Rattle.weight.proofs.Orders.{lt_le_lt, le_first}
use Rattle.weight.proofs.combining.combine3.Goals as goal

pub returns-in_err-combine : goal.returns-in_err-combine
returns-in_err-combine g c =
    let A = g.W.Weight.algebra in
    let laws = g.met.W.Weight.lawful in
    let exact = g.W.Weight.exact in
    let both = A.plus (exact c.args.x) (exact c.args.y) in
    let z = exact c.args.z in
    let over = lt_le_lt laws A.ceiling both (A.plus both z) c.in_err-combine.ensures (le_first laws both z) in
    rw c.from_residual.ensures over
