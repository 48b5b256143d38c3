use Rattle.deduction.specs.Theorems.{system, In}
use Rattle.deduction.proofs.Ends.{fewer_turns, same_answer}
use Rattle.deduction.proofs.search.two_estimates_stands.Goals as goal

pub returns : goal.returns
returns g c =
    let laws = g.met.W.Weight.lawful in
    record {
      same = λ R e e' fair fair' S Q S' Q' xs xs' at at'.
          same_answer laws (system R) e e' fair.priced fair.consistent fair'.consistent (In S) (In Q) (In S') (In Q') xs xs' at at';
      fewer = λ R e e' higher goal free free'. fewer_turns laws (system R) e e' higher goal free free';
    }
