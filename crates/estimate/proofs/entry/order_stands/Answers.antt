use Rattle.estimate.specs.Cheaper.{ordered, by_cost_cheaper}
use Rattle.estimate.proofs.entry.order_stands.Goals as goal

pub returns : goal.returns
returns g c =
    let w = g.met.W.Weight in
    let A = g.W.Weight.algebra in
    let exact = g.W.Weight.exact in
    record {
      cheapest = by_cost_cheaper A exact g.W.Ord.cmp w.compared w.lawful;
      ordered = ordered w.lawful exact w.same;
    }
