use Rattle.weight.proofs.Totals.{total_next, total_over}
use Rattle.weight.proofs.combining.combine_all.Goals as goal

pub returns-in_err-sum : goal.returns-in_err-sum
returns-in_err-sum g c =
    let laws = g.met.W.Weight.lawful in
    let exact = g.W.Weight.exact in
    rw c.from_residual.ensures
    (total_over laws exact c.args.xs.now c.loop-x.x-index c.x-item.result (exact c.loop-x.sum) c.loop-x-test.true c.x-item.is c.loop-x.invariant c.in_err-sum.ensures)

pub loop-x-preserved : goal.loop-x-preserved
loop-x-preserved g c =
    let laws = g.met.W.Weight.lawful in
    let exact = g.W.Weight.exact in
    let next = total_next laws exact c.args.xs.now c.loop-x.x-index c.x-item.result (exact c.loop-x.sum) c.loop-x-test.true c.x-item.is c.loop-x.invariant in
    let sum = c.in_ok-sum.ensures in
    cc
