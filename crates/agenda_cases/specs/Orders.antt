-- The orders of tasks and of peaks. Assumes nothing.
use Rattle.std.specs.Prelude.{◌≡◌, ℕ, Bool, ◌&&◌, ◌||◌, ◌==◌, nat_lt}
use Rattle.std.proofs.Common.{Equal, nat_cmp, sym}
use Rattle.std.specs.Ordering.{ordering_then}
use Rattle.agenda.specs.Levels.{nat_level, then_level}
use Rattle.agenda_cases.specs.declared.entries.Task.{Task}
use Rattle.agenda_cases.specs.declared.entries.Peak.{Peak}

-- By cost, and at one cost by node.
abbrev pub cheaper : Task → Task → Bool
cheaper a b = nat_lt a.cost b.cost || (a.cost == b.cost && nat_lt a.node b.node)

abbrev pub node_of : Task → ℕ
node_of t = t.node

-- By height from the top, and at one height by place.
abbrev pub higher : Peak → Peak → Bool
higher a b = nat_lt b.height.0 a.height.0 || (a.height.0 == b.height.0 && nat_lt a.place b.place)

abbrev pub place_of : Peak → ℕ
place_of p = p.place

abbrev pub peak : ℕ → ℕ → Peak
peak height place = record { height = record { 0 = height }; place = place }

pub tasks_alike : (x y : Task) → ordering_then (nat_cmp x.cost y.cost) (nat_cmp x.node y.node) ≡ Equal → x ≡ y
tasks_alike x y h =
    let one = then_level _ _ h in
    let p = nat_level x.cost y.cost one.0 in
    let q = nat_level x.node y.node one.1 in
    λ i. record { cost = p i; node = q i }

pub peaks_alike : (x y : Peak) → ordering_then (nat_cmp y.height.0 x.height.0) (nat_cmp x.place y.place) ≡ Equal → x ≡ y
peaks_alike x y h =
    let one = then_level _ _ h in
    let p = nat_level y.height.0 x.height.0 one.0 in
    let q = nat_level x.place y.place one.1 in
    λ i. record { height = record { 0 = sym p i }; place = q i }
