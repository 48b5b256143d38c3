use Rattle.std.proofs.Common.{arith}
use Rattle.replay.proofs.Laid.{total_more, total_all}
use Rattle.replay.proofs.shape.calls.total.Goals as goal

pub size-sum-requires : goal.size-sum-requires
size-sum-requires c = omega (arith, total_more c.args.shapes.now c.loop-shape.shape-index c.loop-shape-test.true, c.loop-shape.invariant, c.requires)

pub loop-shape-preserved : goal.loop-shape-preserved
loop-shape-preserved c =
    omega (arith, total_more c.args.shapes.now c.loop-shape.shape-index c.loop-shape-test.true, c.loop-shape.invariant, c.size-sum.ensures)

pub overflow_add-sum : goal.overflow_add-sum
overflow_add-sum c = omega (arith, total_more c.args.shapes.now c.loop-shape.shape-index c.loop-shape-test.true, c.loop-shape.invariant, c.size-sum.ensures, c.requires)

pub returns : goal.returns
returns c = total_all c.args.shapes.now c.loop-shape.sum c.loop-shape.shape-index c.loop-shape-test.false c.loop-shape.invariant
