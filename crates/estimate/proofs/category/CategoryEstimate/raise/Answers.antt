use Rattle.std.proofs.Common.{◌≡◌, length, ap, ◌∙◌, arith}
use borrow.Rule.Slice.PartMut.{post_of}
use Rattle.std.proofs.lemmas.List.{get_or_append_left, get_or-take, length-take-le}
use Rattle.std.proofs.lemmas.Slice.{drop-put_mid}
use Rattle.weight.specs.Algebra.{larger}
use Rattle.grammar.specs.Model.{model}
use Rattle.estimate.specs.Weighing.{categories}
use Rattle.estimate.specs.Settling.{category_own}
use Rattle.estimate.proofs.category.CategoryEstimate.raise.Goals as goal

pub returns-clause-raised : goal.returns-clause-raised
returns-clause-raised g c =
    let m = model c.args.weighed.now.accepted.grammar.now in
    let A = g.W.Weight.algebra in
    let exact = g.W.Weight.exact in
    let n = categories m in
    let k = length c.dimensions-n.result.now in
    let same : k ≡ n = omega (arith, ap length c.dimensions-n.ensures) in
    let row = c.args.row.now in
    let now = c.raise_whole.new.row in
    let told = c.raise_whole.ensures in
    let long : length now ≡ k = c.raise_whole.auto.row ∙ length-take-le k row (omega (arith, same, c.requires.row)) in
    record {
      each = λ x d h.
          let own = category_own A g.W.Capped.showing m x in
          get_or_append_left now (post_of 0 k row) d x (omega (arith, h, long, same)) ∙ told.raised x d h ∙ ap (λ v. larger A exact v own) (get_or-take k row x d (omega (arith, h, same)));
      rest = drop-put_mid 0 k row now n (omega (arith, same)) (omega arith) long;
    }
