use Rattle.std.proofs.Common.{◌≡◌, ◌+◌, drop}
use Rattle.replay.specs.Shapes.{total}
use Rattle.replay.proofs.shape.calls.total.Given as goal

-- the shapes that are left make up the rest
abbrev pub invariant-loop-shape : goal.invariant-loop-shape
invariant-loop-shape l = l.sum + total (drop l.shape-index l.shapes) ≡ total l.shapes
