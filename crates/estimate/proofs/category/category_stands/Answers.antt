use Rattle.estimate.specs.CategoryWeights.{category_is}
use Rattle.estimate.specs.CategoryOwn.{own_holds}
use Rattle.estimate.proofs.category.category_stands.Goals as goal

pub returns : goal.returns
returns g c = record {
  exact = λ m x formed. own_holds g.met.W.Weight.lawful g.W.Weight.exact m formed g.met.W.Weight.held g.W.Capped.showing g.met.W.Capped.shown x;
  lightest = λ m x formed. category_is g.met.W.Weight.lawful m formed x;
}
