use Rattle.deduction.specs.Theorems.{system, In}
use Rattle.deduction.proofs.Ends.{turns_reached, turns_emptied, turns_exceed, emptied}
use Rattle.std.proofs.Common.{[]}
use Rattle.deduction.proofs.search.turns_stands.Goals as goal

pub returns : goal.returns
returns g c =
    let laws = g.met.W.Weight.lawful in
    record {
      reached = λ R e fair S Q xs at. turns_reached laws (system R) e fair.priced fair.consistent (In S) (In Q) xs at;
      emptied = λ R e fair S xs at goal out. (
        turns_emptied laws (system R) e fair.priced fair.consistent (In S) (In []) xs at (λ d x h. h) goal out,
        emptied laws (system R) e fair.priced fair.consistent (In S) (In []) xs at (λ d x h. h),
      );
      exceeded = λ R e fair S Q xs at. turns_exceed laws (system R) e fair.priced fair.consistent (In S) (In Q) xs at;
    }
