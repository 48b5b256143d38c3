use Rattle.deduction.specs.Theorems.{system, In}
use Rattle.deduction.proofs.Derivations.{keyed_fits}
use Rattle.deduction.proofs.Frontier.{pop}
use Rattle.deduction.proofs.search.best_stands.Goals as goal

pub returns : goal.returns
returns g c =
    let laws = g.met.W.Weight.lawful in
    record {
      settled = λ R e fair S Q xs at d x h.
          let was = at.settled d x h in
          record { derives = was.derives; fits = keyed_fits laws (system R) e d x was.keyed; least = at.best d x h };
      popped = λ R e fair S Q xs at d x q.
          let was = at.queued d x q.entry in
          record {
            derives = was.derives;
            fits = keyed_fits laws (system R) e d x was.keyed;
            least = pop laws (system R) e fair.priced fair.consistent (In S) (In Q) xs at d x q;
          };
    }
