use Rattle.std.proofs.Common.{get_or, arith}
use Rattle.std.proofs.lemmas.List.Sorted.{IsPermutation-trans}
use Rattle.agenda.specs.Orders.{before}
use Rattle.agenda.specs.Tables.{listed}
use Rattle.agenda.proofs.Sifts as sifts
use Rattle.agenda.proofs.Ranks.{ordered}
use Rattle.agenda.proofs.Tables.{listed_length, stays_then}
use Rattle.agenda.proofs.table.Table.sift_down.Goals as goal

pub returns-then-not-ahead-clause-sinks : goal.returns-then-not-ahead-clause-sinks
returns-then-not-ahead-clause-sinks g c h d =
    let l = c.loop-at in
    let child = c.first_child-child in
    sifts.down_rests (before g.E.Ord.cmp) (ordered g.met.E.Ord.total g.met.E.Slotted.alike) (λ i. get_or (listed l.self) i d) l.at child.result _ (c.if-not-ahead.ensures d) (child.ensures.first d) (l.invariant.1 h d)

pub loop-at-preserved : goal.loop-at-preserved
loop-at-preserved g c =
    let l = c.loop-at in
    let child = c.first_child-child in
    let w = c.exchange in
    let t = l.self in
    let u = w.new.self in
    let now = listed_length t in
    let then = listed_length u in
    let same = w.ensures.stays.len in (
      IsPermutation-trans _ _ _ l.invariant.0 w.ensures.shuffled,
      λ h d. sifts.down_steps (before g.E.Ord.cmp) (ordered g.met.E.Ord.total g.met.E.Slotted.alike) (λ i. get_or (listed t) i d) (λ i. get_or (listed u) i d) l.at child.result _ _
          (omega arith, omega arith) (omega arith) (omega arith) (w.ensures.swaps d) (c.if-not-ahead.ensures d) (child.ensures.first d) (l.invariant.1 h d),
      stays_then c.args.self.now t u l.invariant.0 l.invariant.2 w.ensures.stays,
    )

pub returns-clause-sinks : goal.returns-clause-sinks
returns-clause-sinks g c h d =
    let l = c.loop-at in
    let long = listed_length l.self in
    sifts.down_leaf (before g.E.Ord.cmp) (λ i. get_or (listed l.self) i d) l.at _ (omega arith) (l.invariant.1 h d)
