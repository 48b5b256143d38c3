use Rattle.std.proofs.Common.{◌≡◌, ◌<◌, ◌+◌, ℕ, suc, List, ◌∷◌, [], ◌++◌, Some, None, length, take, drop, get_or, sym, ◌∙◌, ap, subst, arith, take-append-drop}
use Rattle.std.proofs.Math.Seq.{take-suc}
use Rattle.estimate.specs.Searches.{at, Open, Weighed}
use Rattle.estimate.proofs.Searching.{with_both, with_more}
use Rattle.estimate.proofs.search.weigh.Goals as goal

pub returns-in_err-cost : goal.returns-in_err-cost
returns-in_err-cost g c =
    let A = g.W.Weight.algebra in
    let laws = g.met.W.Weight.lawful in
    let exact = g.W.Weight.exact in
    let nothing = g.W.Weight.nothing in
    let row = c.args.row.now in
    let price = exact c.args.rule.now.price in
    let ps = c.args.rule.now.premises.items in
    let k = c.loop-x.x-index in
    let x = get_or ps k 0 in
    let inside : k < length ps = omega (arith, ap length c.as_slice-x-items.ensures.value) in
    let told : (c.in_ok-settled.field-0 ≡ at A exact nothing row x) × (Open A exact nothing row x → ⊥) =
    subst (λ (qs : List ℕ). (c.in_ok-settled.field-0 ≡ at A exact nothing row (get_or qs k 0)) × (Open A exact nothing row (get_or qs k 0) → ⊥)) c.as_slice-x-items.ensures.value c.in_ok-settled.ensures in
    let heavy = with_both laws exact nothing row price (take k ps) x c.loop-x.cost c.in_ok-settled.field-0 c.loop-x.invariant told.0 told.1 None c.in_err-cost.ensures in
    let whole : (take k ps ++ x ∷ []) ++ drop (suc k) ps ≡ ps = ap (λ qs. qs ++ drop (suc k) ps) (sym (take-suc ps k 0 inside)) ∙ take-append-drop (suc k) ps in
    let none = subst (λ qs. Weighed A exact nothing row price qs None) whole (with_more laws exact nothing row price (take k ps ++ x ∷ []) (drop (suc k) ps) heavy) in
    subst (Weighed A exact nothing row price ps) (sym c.from_residual-in_err-cost.ensures) none

pub loop-x-preserved : goal.loop-x-preserved
loop-x-preserved g c =
    let A = g.W.Weight.algebra in
    let laws = g.met.W.Weight.lawful in
    let exact = g.W.Weight.exact in
    let nothing = g.W.Weight.nothing in
    let row = c.args.row.now in
    let price = exact c.args.rule.now.price in
    let ps = c.args.rule.now.premises.items in
    let k = c.loop-x.x-index in
    let x = get_or ps k 0 in
    let inside : k < length ps = omega (arith, ap length c.as_slice-x-items.ensures.value) in
    let told : (c.in_ok-settled.field-0 ≡ at A exact nothing row x) × (Open A exact nothing row x → ⊥) =
    subst (λ (qs : List ℕ). (c.in_ok-settled.field-0 ≡ at A exact nothing row (get_or qs k 0)) × (Open A exact nothing row (get_or qs k 0) → ⊥)) c.as_slice-x-items.ensures.value c.in_ok-settled.ensures in
    let more = with_both laws exact nothing row price (take k ps) x c.loop-x.cost c.in_ok-settled.field-0 c.loop-x.invariant told.0 told.1 (Some c.in_ok-cost.cost) c.in_ok-cost.ensures in
    let next : k + 1 ≡ suc k = omega arith in
    subst (λ qs. Weighed A exact nothing row price qs (Some c.in_ok-cost.cost)) (sym (ap (λ j. take j ps) next ∙ take-suc ps k 0 inside)) more
