use Rattle.std.proofs.Common.{[]}
use Rattle.deduction.specs.Theorems.{system, In}
use Rattle.deduction.proofs.Ends.{none_left}
use Rattle.deduction.proofs.search.nothing_found_stands.Goals as goal

pub returns : goal.returns
returns g c =
    λ R e fair S xs at goal free out.
    none_left g.met.W.Weight.lawful (system R) e fair.priced fair.consistent (In S) (In []) xs at (λ d x h. h) goal free out
