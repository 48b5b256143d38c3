use Rattle.std.proofs.Common.{◌≡◌, ℕ, ◌≤◌, get_or}
use Rattle.estimate.specs.Chains.{RaisedBy}
use Rattle.estimate.proofs.category.raise_by.Given as goal

abbrev pub invariant-loop-c : goal.invariant-loop-c
invariant-loop-c g l =
    RaisedBy g.W.Weight.algebra g.W.Weight.exact g.W.Weight.nothing l.start l.chains l.initial.row l.row l.c
    × ((k : ℕ) (d : g.row.W.Denot) → l.c ≤ k → get_or l.row k d ≡ get_or l.initial.row k d)
