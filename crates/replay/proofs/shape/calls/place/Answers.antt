use Rattle.std.proofs.Common.{arith}
use Rattle.replay.proofs.Laid.{place_at, place_past, total_take}
use Rattle.replay.proofs.shape.calls.place.Goals as goal

pub returns-then-k-shapes : goal.returns-then-k-shapes
returns-then-k-shapes c = record { value = place_past c.args.shapes.now c.args.k c.args.l c.if-k-shapes.true; bound = omega arith }

pub total-before-requires : goal.total-before-requires
total-before-requires c = omega (arith, total_take c.args.shapes.now c.args.k c.if-k-shapes.false, c.requires)

pub overflow_add-result : goal.overflow_add-result
overflow_add-result c =
    omega (arith, c.total-before.ensures, c.string-start.ensures.bound, total_take c.args.shapes.now c.args.k c.if-k-shapes.false, c.requires)

pub returns : goal.returns
returns c = record {
  value = place_at c.args.shapes.now c.args.k c.args.l c.total-before.result c.string-start.result.0 c.string-start.result.1
      c.if-k-shapes.false c.total-before.ensures c.string-start.ensures.value;
  bound = omega (arith, c.total-before.ensures, c.string-start.ensures.bound, total_take c.args.shapes.now c.args.k c.if-k-shapes.false);
}
