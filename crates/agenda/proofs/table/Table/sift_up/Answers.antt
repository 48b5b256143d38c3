use Rattle.std.proofs.Common.{◌-◌, ◌/◌, get_or, arith}
use Rattle.std.proofs.lemmas.List.Sorted.{IsPermutation-trans}
use Rattle.agenda.specs.Orders.{before}
use Rattle.agenda.specs.Tables.{listed}
use Rattle.agenda.proofs.Sifts as sifts
use Rattle.agenda.proofs.Ranks.{ordered}
use Rattle.agenda.proofs.Tables.{listed_length, stays_then}
use Rattle.agenda.proofs.table.Table.sift_up.Goals as goal

pub loop-at-preserved : goal.loop-at-preserved
loop-at-preserved g c =
    let l = c.loop-at in
    let w = c.exchange in
    let t = l.self in
    let u = w.new.self in
    let now = listed_length t in
    let then = listed_length u in
    let same = w.ensures.stays.len in (
      omega arith,
      IsPermutation-trans _ _ _ l.invariant.1 w.ensures.shuffled,
      λ h d. sifts.up_steps (before g.E.Ord.cmp) (ordered g.met.E.Ord.total g.met.E.Slotted.alike) (λ i. get_or (listed t) i d) (λ i. get_or (listed u) i d) ((l.at - 1) / 2) l.at _ _
          (omega arith, omega arith) (omega arith) (omega arith) (w.ensures.swaps d) (c.if-ahead.ensures d) (l.invariant.2 h d),
      stays_then c.args.self.now t u l.invariant.1 l.invariant.3 w.ensures.stays,
    )

pub returns-else-ahead-clause-rises : goal.returns-else-ahead-clause-rises
returns-else-ahead-clause-rises g c h d =
    let l = c.loop-at in
    sifts.up_rests (before g.E.Ord.cmp) (λ i. get_or (listed l.self) i d) ((l.at - 1) / 2) l.at _ (omega arith, omega arith) (c.if-ahead.ensures d) (l.invariant.2 h d)

pub returns-after-loop-at-clause-rises : goal.returns-after-loop-at-clause-rises
returns-after-loop-at-clause-rises g c h d =
    let l = c.loop-at in
    sifts.up_top (before g.E.Ord.cmp) (λ i. get_or (listed l.self) i d) l.at _ (omega arith) (l.invariant.2 h d)
