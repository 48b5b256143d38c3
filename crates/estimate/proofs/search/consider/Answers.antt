use Rattle.std.proofs.Common.{Bool, subst, inr, rules}
use Rattle.agenda.specs.Agendas.{Offered, entries}
use Rattle.estimate.specs.declared.entry.Entry.{Entry}
use Rattle.estimate.specs.Entries.{place}
use Rattle.estimate.specs.Cheaper.{by_cost_cheaper}
use Rattle.estimate.proofs.search.consider.Goals as goal

pub returns-in-Some-clause-considered : goal.returns-in-Some-clause-considered
returns-in-Some-clause-considered g c =
    let w = g.met.W.Weight in
    let offered = λ (lt : Entry g.row.W.Denot → Entry g.row.W.Denot → Bool). Offered lt place (record { cost = c.in-Some.cost; category = c.args.rule.now.result }) (entries c.args.agenda.now) (entries c.offer.new.self) in
    inr (c.in-Some.cost, search rules, c.in-Some.ensures, subst offered (by_cost_cheaper g.W.Weight.algebra g.W.Weight.exact g.W.Ord.cmp w.compared w.lawful) c.offer.ensures.offered)
