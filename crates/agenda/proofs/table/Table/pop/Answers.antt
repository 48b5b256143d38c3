use Rattle.std.proofs.Common.{◌-◌, ◌∙◌, arith}
use Rattle.std.proofs.lemmas.List.Sorted.{IsPermutation-trans, IsPermutation-cons}
use Rattle.agenda.specs.Orders.{before}
use Rattle.agenda.proofs.Puts as puts
use Rattle.agenda.proofs.Ranks.{ordered}
use Rattle.agenda.proofs.Parts.{held_length, absent_shuffled, absent_tail}
use Rattle.agenda.proofs.Tables.{listed_length}
use Rattle.agenda.proofs.table.Table.pop.Goals as goal

pub put-requires : goal.put-requires
put-requires g c =
    let t = c.args.self.now in
    (omega arith, puts.index_within g.E.Slotted.index t.cells.now t.len t.within t.placed (t.len - 1) c.entry-last.result (omega arith) c.entry-last.ensures)

pub invariant_of-self : goal.invariant_of-self
invariant_of-self g c =
    let t = c.args.self.now in
    record {
      within = omega arith;
      placed = puts.pop_placed g.E.Slotted.index t.cells.now t.len t.within t.placed c.put.new.cells c.entry-top.result c.entry-last.result c.requires c.entry-top.ensures c.entry-last.ensures c.put.ensures;
    }

pub returns : goal.returns
returns g c =
    let ix = g.E.Slotted.index in
    let lt = before g.E.Ord.cmp in
    let t = c.args.self.now in
    let x = c.entry-top.result in
    let v = c.entry-last.result in
    let put = c.put.new.cells in
    let told = c.sift_down.ensures in
    let start = puts.pop_shuffles ix t.cells.now t.len t.within t.placed put x v c.requires c.entry-top.ensures c.entry-last.ensures c.put.ensures lt in
    record {
      takes = IsPermutation-trans _ _ _ start (IsPermutation-cons x _ _ told.shuffled);
      first = puts.pop_first ix t.cells.now t.len t.within t.placed put x v c.requires c.entry-top.ensures c.entry-last.ensures c.put.ensures lt (ordered g.met.E.Ord.total g.met.E.Slotted.alike);
      heap = λ h. told.sinks (puts.pop_down ix t.cells.now t.len t.within t.placed put x v c.requires c.entry-top.ensures c.entry-last.ensures c.put.ensures lt h);
      free = absent_shuffled ix _ _ (ix x) told.shuffled (puts.pop_absent ix t.cells.now t.len t.within t.placed put x v c.requires c.entry-top.ensures c.entry-last.ensures c.put.ensures);
      len = omega (arith, told.stays.len);
      lies = record {
        named = told.stays.lies.named;
        room = omega (arith, told.stays.lies.room);
        untouched = λ k d past none.
            told.stays.lies.untouched k d (omega (arith, held_length put (t.len - 1) (omega arith), listed_length t)) (absent_tail ix x _ k (absent_shuffled ix _ _ k start none))
            ∙ puts.pop_untouched ix t.cells.now t.len t.within t.placed put x v c.requires c.entry-top.ensures c.entry-last.ensures c.put.ensures k d past none;
      };
    }
