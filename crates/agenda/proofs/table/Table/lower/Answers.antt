use Rattle.std.proofs.Common.{subst, ◌∙◌, arith}
use Rattle.std.specs.List.Sorted.{IsPermutation}
use Rattle.agenda.specs.Orders.{before}
use Rattle.agenda.specs.Tables.{listed}
use Rattle.agenda.proofs.Puts as puts
use Rattle.agenda.proofs.Ranks.{ordered}
use Rattle.agenda.proofs.Parts.{held_length}
use Rattle.agenda.proofs.Tables.{listed_length}
use Rattle.agenda.proofs.table.Table.lower.Goals as goal

pub returns : goal.returns
returns g c =
    let ix = g.E.Slotted.index in
    let t = c.args.self.now in
    let p = c.args.p in
    let e = c.args.e in
    let put = c.put.new.cells in
    let told = c.sift_up.ensures in
    let at = c.requires.present in
    record {
      shuffled = subst (λ l. IsPermutation l (listed c.sift_up.new.self)) (puts.lower_is ix t.cells.now t.len t.within t.placed put p e at c.put.ensures) told.shuffled;
      heap = λ h. told.rises (puts.lower_up ix t.cells.now t.len t.within t.placed put p e at c.put.ensures (before g.E.Ord.cmp) (ordered g.met.E.Ord.total g.met.E.Slotted.alike) c.requires.lower h);
      stays = record {
        len = told.stays.len;
        lies = record {
          named = told.stays.lies.named;
          room = omega (arith, told.stays.lies.room);
          untouched = λ k d past none.
              told.stays.lies.untouched k d (omega (arith, held_length put t.len (omega arith), listed_length t)) (puts.lower_absent ix t.cells.now t.len t.within t.placed put p e at c.put.ensures k none)
              ∙ puts.lower_untouched ix t.cells.now t.len t.within t.placed put p e at c.put.ensures k d past none;
        };
      };
    }
