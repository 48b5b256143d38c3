use Rattle.weight.proofs.Orders.{larger_compared}
use Rattle.weight.proofs.combining.larger.Goals as goal

pub returns : goal.returns
returns g c =
    let x = c.args.x in
    let y = c.args.y in
    let laws = g.met.W.Weight in
    let is = larger_compared laws.lawful g.W.Weight.exact x y (g.W.Ord.cmp x y) (laws.compared x y) in
    let max = c.max.ensures in
    cc
