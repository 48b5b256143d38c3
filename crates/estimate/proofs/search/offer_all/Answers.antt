use Rattle.std.proofs.Common.{ℕ, rules, ◌+◌, ◌<◌, List, sym, ap, refl, ◌∙◌, subst, arith}
use Rattle.agenda.specs.Agendas.{room, entries}
use Rattle.estimate.specs.declared.entry.Entry.{Entry}
use Rattle.estimate.specs.Searches.{AllOffered}
use Rattle.grammar.specs.Formed.{Each}
use Rattle.estimate.specs.Rules.{premises_of}
use Rattle.estimate.proofs.Searching.{considered, consider_none, consider_idle}
use Rattle.estimate.proofs.search.offer_all.Goals as goal
use Rattle.estimate.proofs.search.offer_all.Goals.{in-Some, in_default}

pub loop-k-preserved : goal.loop-k-preserved
loop-k-preserved g c =
    let A = g.W.Weight.algebra in
    let laws = g.met.W.Weight.lawful in
    let exact = g.W.Weight.exact in
    let nothing = g.W.Weight.nothing in
    let rules = c.args.rules.now in
    let n = g.R.Rules.count rules in
    let gives = g.R.Rules.gives rules in
    let row = c.args.row.now in
    let k = c.loop-k.k in
    let was = c.loop-k.agenda in
    let inv = c.loop-k.invariant in
    let within : k < n = omega (arith, c.size-k-end.ensures) in
    let P : List (Entry g.row.W.Denot) → Type 0 = AllOffered A exact nothing n gives row (entries c.args.agenda.now) (k + 1) in
    elim c.match-rule.branch [
      | in-Some w ↦
          let now = w.consider.new.agenda in
          let told = w.consider.ensures in (
            ap room w.agenda-is ∙ told.room ∙ inv.0,
            subst P (sym (ap entries w.agenda-is)) (λ h.
                let so_far = inv.1 h in
                considered laws exact nothing n gives (g.met.R.Rules.one rules) row (entries was) (entries now) k so_far.0 so_far.1 w.in-Some.rule within w.in-Some.ensures told.considered),
          )
      | in_default w ↦ (
        ap room w.agenda-is ∙ inv.0,
        subst P (sym (ap entries w.agenda-is)) (λ h.
            let so_far = inv.1 h in
            consider_none laws exact nothing n gives (g.met.R.Rules.one rules) row (entries was) (entries was) k so_far.0 so_far.1 (subst (gives k) w.in_default.is c.rule.ensures) refl),
      )
    ]

pub returns-clause-offered : goal.returns-clause-offered
returns-clause-offered g c = λ h.
    let all = c.loop-k.invariant.1 h in
    (all.0, λ r below. all.1 r (omega (arith, c.size-k-end.ensures, c.loop-k-test.false)))

pub loop-k-preserved-then-not-is_ready : goal.loop-k-preserved-then-not-is_ready
loop-k-preserved-then-not-is_ready g c =
    let rules_now = c.args.rules.now in
    let inv = c.loop-k.invariant in
    let held = entries c.loop-k.agenda in (
      inv.0,
      λ h.
          let so_far = inv.1 h in
          consider_idle g.met.W.Weight.lawful g.W.Weight.exact g.W.Weight.nothing (g.R.Rules.count rules_now) (g.R.Rules.gives rules_now) (g.met.R.Rules.one rules_now) c.args.row.now held held c.loop-k.k so_far.0 so_far.1 (λ r given all free fits. c.is_ready.ensures (search rules) r given all free) refl,
    )

pub consider-requires-clause-premises : goal.consider-requires-clause-premises
consider-requires-clause-premises g c =
    let within : c.loop-k.k < g.R.Rules.count c.args.rules.now = omega (arith, c.size-k-end.ensures) in
    let inside = g.met.R.Rules.inside c.args.rules.now c.loop-k.k c.in-Some.rule within c.in-Some.ensures in
    subst (λ (n : ℕ). Each (λ p. p < n) (premises_of c.in-Some.rule.premises)) (sym c.requires.row) inside.premises
