use Rattle.std.proofs.Common.{◌≡◌, ◌<◌, List, length, set, sym, ap, ◌∙◌, subst, arith}
use lib.ListN.{length-replicate}
use Rattle.std.proofs.lemmas.List.{length-set}
use Rattle.agenda.specs.Agendas.{entries}
use Rattle.estimate.specs.Rules.{system}
use Rattle.estimate.specs.Searches.{Searching, opens}
use Rattle.estimate.proofs.Searching.{begin, taken_cheaper, entry_inside, settle, fewer, solved}
use Rattle.estimate.proofs.search.search.Goals as goal

pub loop-e-init : goal.loop-e-init
loop-e-init g c =
    let A = g.W.Weight.algebra in
    let exact = g.W.Weight.exact in
    let nothing = g.W.Weight.nothing in
    let rules = c.args.rules.now in
    let n = g.R.Rules.items rules in
    let told = c.offer_all.ensures in
    let all = told.offered (begin A exact nothing (system A exact (g.R.Rules.count rules) (g.R.Rules.gives rules)) n c.args.row.now (entries c.new-agenda.result) c.requires.row c.new-agenda.ensures.empty) in (
      told.room ∙ ap length c.new-agenda.ensures.cells ∙ c.requires.cells,
      ap length c.requires.row ∙ length-replicate n nothing,
      all.0,
      all.1,
    )

pub settle-requires : goal.settle-requires
settle-requires g c =
    let inv = c.loop-e.invariant in
    let l = entry_inside c.loop-e.agenda c.in-Some.e c.in-Some.ensures.popped.member in
    omega (arith, l, inv.0, inv.1)

pub loop-e-smaller : goal.loop-e-smaller
loop-e-smaller g c =
    let A = g.W.Weight.algebra in
    let w = g.met.W.Weight in
    let exact = g.W.Weight.exact in
    let nothing = g.W.Weight.nothing in
    let rules = c.args.rules.now in
    let inv = c.loop-e.invariant in
    let row = c.loop-e.row in
    let e = c.in-Some.e in
    let taken = taken_cheaper exact g.W.Ord.cmp w.compared w.lawful e (entries c.loop-e.agenda) (entries c.pop.new.self) c.in-Some.ensures.popped in
    let l = entry_inside c.loop-e.agenda e taken.member in
    let inside : e.category < length row = omega (arith, l, inv.0, inv.1) in
    let less = fewer w.lawful exact nothing w.within w.same w.empty (g.R.Rules.count rules) (g.R.Rules.gives rules) (g.met.R.Rules.inside rules)
    row (entries c.loop-e.agenda) inv.2 inv.3 e (entries c.pop.new.self) taken inside in
    let now : opens A exact c.settle.new.row ≡ opens A exact (set row e.category e.cost) = ap (opens A exact) c.settle.ensures in
    omega (arith, less, now)

pub loop-e-preserved : goal.loop-e-preserved
loop-e-preserved g c =
    let A = g.W.Weight.algebra in
    let w = g.met.W.Weight in
    let exact = g.W.Weight.exact in
    let nothing = g.W.Weight.nothing in
    let rules = c.args.rules.now in
    let n = g.R.Rules.count rules in
    let gives = g.R.Rules.gives rules in
    let inv = c.loop-e.invariant in
    let row = c.loop-e.row in
    let e = c.in-Some.e in
    let popped = c.in-Some.ensures in
    let taken = taken_cheaper exact g.W.Ord.cmp w.compared w.lawful e (entries c.loop-e.agenda) (entries c.pop.new.self) popped.popped in
    let l = entry_inside c.loop-e.agenda e taken.member in
    let inside : e.category < length row = omega (arith, l, inv.0, inv.1) in
    let told = c.offer_all-in-Some.ensures in
    let settled = settle w.lawful exact nothing w.within w.same w.empty n gives (g.met.R.Rules.inside rules)
    row (entries c.loop-e.agenda) inv.2 inv.3 e (entries c.pop.new.self) taken inside in
    let S : List g.row.W.Denot → Type 0 = λ r. Searching A exact nothing (system A exact n gives) r (entries c.pop.new.self) in
    let all = told.offered (subst S (sym c.settle.ensures) settled) in (
      told.room ∙ popped.room ∙ inv.0,
      ap length c.settle.ensures ∙ length-set row e.category e.cost ∙ inv.1,
      all.0,
      all.1,
    )

pub returns-clause-solved : goal.returns-clause-solved
returns-clause-solved g c = λ x h.
    let w = g.met.W.Weight in
    let rules = c.args.rules.now in
    let inv = c.loop-e.invariant in
    solved w.lawful g.W.Weight.exact g.W.Weight.nothing w.within w.same w.empty (g.R.Rules.count rules) (g.R.Rules.gives rules) (g.met.R.Rules.inside rules)
    c.loop-e.row (entries c.loop-e.agenda) inv.2 inv.3 c.in_default.ensures.popped.0 x (omega (arith, h, inv.1))
