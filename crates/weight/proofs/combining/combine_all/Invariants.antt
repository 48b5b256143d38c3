use Rattle.std.proofs.Common.{◌≡◌, take}
use Rattle.weight.specs.Algebra.{total}
use Rattle.weight.proofs.combining.combine_all.Given as goal

abbrev pub invariant-loop-x : goal.invariant-loop-x
invariant-loop-x g l =
    let w = g.W.Weight in
    w.exact l.sum ≡ total w.algebra w.exact (take l.x-index l.xs)
