use Rattle.std.proofs.Common.{refl, arith}
use Rattle.agenda.proofs.Puts.{index_within, exchanged}
use Rattle.agenda.proofs.table.Table.exchange.Goals as goal

pub put-requires-2 : goal.put-requires-2
put-requires-2 g c =
    let t = c.args.self.now in
    let h = index_within g.E.Slotted.index t.cells.now t.len t.within t.placed c.args.i c.entry-a.result c.requires.0 c.entry-a.ensures in
    (omega arith, omega arith)

pub invariant_of-self-clause-placed : goal.invariant_of-self-clause-placed
invariant_of-self-clause-placed g c =
    let t = c.args.self.now in
    let r = exchanged g.E.Slotted.index t.cells.now t.len t.within t.placed c.put.new.cells c.put-2.new.cells c.args.i c.args.j c.entry-a.result c.entry-b.result
    c.requires.0 c.requires.1 c.entry-a.ensures c.entry-b.ensures c.put.ensures c.put-2.ensures in
    r.placed

pub returns : goal.returns
returns g c =
    let t = c.args.self.now in
    let r = exchanged g.E.Slotted.index t.cells.now t.len t.within t.placed c.put.new.cells c.put-2.new.cells c.args.i c.args.j c.entry-a.result c.entry-b.result
    c.requires.0 c.requires.1 c.entry-a.ensures c.entry-b.ensures c.put.ensures c.put-2.ensures in
    record {
      shuffled = r.shuffled;
      swaps = r.swaps;
      stays = record { len = refl; lies = record { named = refl; room = omega arith; untouched = r.untouched } };
    }
