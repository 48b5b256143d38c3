use Rattle.std.proofs.Common.{◌+◌, ◌∙◌, arith}
use Rattle.std.proofs.lemmas.List.Sorted.{IsPermutation-trans}
use Rattle.agenda.specs.Orders.{before}
use Rattle.agenda.proofs.Puts as puts
use Rattle.agenda.proofs.Members.{room_for}
use Rattle.agenda.proofs.Parts.{held_length, absent_shuffled}
use Rattle.agenda.proofs.Tables.{listed_length}
use Rattle.agenda.proofs.table.Table.push.Goals as goal

pub put-requires : goal.put-requires
put-requires g c =
    let t = c.args.self.now in
    (omega (arith, room_for g.E.Slotted.index c.args.e t.cells.now t.len t.within t.placed c.requires.within c.requires.absent), c.requires.within)

pub invariant_of-self : goal.invariant_of-self
invariant_of-self g c =
    let t = c.args.self.now in
    record {
      within = omega (arith, room_for g.E.Slotted.index c.args.e t.cells.now t.len t.within t.placed c.requires.within c.requires.absent);
      placed = puts.push_placed g.E.Slotted.index t.cells.now t.len t.within t.placed c.put.new.cells c.args.e c.requires.within c.requires.absent c.put.ensures;
    }

pub returns : goal.returns
returns g c =
    let ix = g.E.Slotted.index in
    let lt = before g.E.Ord.cmp in
    let t = c.args.self.now in
    let e = c.args.e in
    let put = c.put.new.cells in
    let told = c.sift_up.ensures in
    let room = room_for ix e t.cells.now t.len t.within t.placed c.requires.within c.requires.absent in
    let start = puts.push_shuffles ix t.cells.now t.len t.within t.placed put e c.requires.within c.requires.absent c.put.ensures lt in
    record {
      adds = IsPermutation-trans _ _ _ start told.shuffled;
      heap = λ h. told.rises (puts.push_up ix t.cells.now t.len t.within t.placed put e c.requires.within c.requires.absent c.put.ensures lt h);
      len = told.stays.len;
      lies = record {
        named = told.stays.lies.named;
        room = omega (arith, told.stays.lies.room);
        untouched = λ k d past none.
            told.stays.lies.untouched k d (omega (arith, held_length put (t.len + 1) (omega arith), listed_length t)) (absent_shuffled ix _ _ k start none)
            ∙ puts.push_untouched ix t.cells.now t.len t.within t.placed put e c.requires.within c.requires.absent c.put.ensures k d past none;
      };
    }
