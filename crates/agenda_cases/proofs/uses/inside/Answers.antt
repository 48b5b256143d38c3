use Rattle.std.proofs.Common.{◌≡◌, List, [], drop, ap, ◌∙◌, subst, ⊎_elim, arith, rules}
use Rattle.std.specs.List.{ContainsAt as Has}
use Rattle.agenda.specs.Agendas.{Bounded, Pushed, entries, cells_of}
use Rattle.agenda_cases.specs.Orders.{node_of}
use Rattle.agenda_cases.specs.declared.entries.Task.{Task}
use Rattle.agenda_cases.proofs.uses.inside.Goals as goal

-- after a push into an empty agenda there is that entry alone
alone : (e : Task) (xs ys : List Task) → xs ≡ [] → Pushed e xs ys → (x : Task) → Has ys x → x ≡ e
alone e xs ys none told x h =
    ⊎_elim (λ z. z) (λ m. let l = (subst (λ l. Has l x) none m).1 in absurd (omega arith)) (told.only x h)

pub returns-in-Some : goal.returns-in-Some
returns-in-Some c =
    let a = c.push.new.self in
    let b = c.pop.new.self in
    let new = c.new-a.result in
    let e : Task = record { cost = 20; node = 3 } in
    let one : (x : Task) → Has (entries a) x → x ≡ e = alone e (entries new) (entries a) c.new-a.ensures.empty c.push.ensures.pushed in
    let small : Bounded node_of (entries a) 4 = λ x h. let z : node_of x ≡ 3 = ap node_of (one x h) in omega arith in
    let u : drop 4 (cells_of a) ≡ drop 4 (cells_of new) = c.push.ensures.untouched 4 small in
    let v : drop 4 (cells_of b) ≡ drop 4 (cells_of a) = c.pop.ensures.untouched 4 small in
    let w : drop 4 (cells_of b) ≡ drop 4 c.args.cells.now = v ∙ u ∙ ap (drop 4) c.new-a.ensures.cells in
    record { cost = ap (λ t. t.cost) (one c.in-Some.t c.in-Some.ensures.popped.member); rest = search rules }
