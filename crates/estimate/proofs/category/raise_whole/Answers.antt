use Rattle.std.proofs.Common.{◌≡◌, ℕ, ◌<◌, length, ◌∙◌, subst, arith}
use Rattle.grammar.specs.Model.{model}
use Rattle.grammar.proofs.Formed.{formed_is}
use Rattle.estimate.specs.Chains.{RowWeight}
use Rattle.estimate.specs.Settling.{category_own}
use Rattle.estimate.specs.CategoryOwn.{row_own}
use Rattle.estimate.proofs.category.raise_whole.Goals as goal

pub returns-clause-raised : goal.returns-clause-raised
returns-clause-raised g c =
    let m = model c.args.weighed.now.accepted.grammar.now in
    let w = g.met.W.Weight in
    let A = g.W.Weight.algebra in
    let exact = g.W.Weight.exact in
    let nothing = g.W.Weight.nothing in
    let formed = formed_is m c.args.weighed.now.accepted.grammar.now.well_formed in
    let row = c.search.new.row in
    let own : (x : ℕ) (r : g.row.W.Denot) → x < length c.args.row.now → RowWeight A exact nothing c.from.result row x r → r ≡ category_own A g.W.Capped.showing m x =
    λ x r l is.
    row_own w.lawful exact m formed w.held c.args.weighed.now.accepted.accepted w.within nothing w.empty row c.search.ensures.solved x (omega (arith, l, c.requires.row)) r
    (subst (λ s. RowWeight A exact nothing s row x r) (c.from.ensures ∙ c.start.ensures) is) w.same g.W.Capped.showing g.met.W.Capped.shown in
    λ x d l. c.raise_by.ensures (category_own A g.W.Capped.showing m) own x d (omega (arith, l, c.requires.row))
