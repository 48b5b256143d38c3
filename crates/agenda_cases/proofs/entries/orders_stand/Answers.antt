use Rattle.std.specs.Prelude.{ltb}
use Rattle.agenda_cases.specs.declared.entries.Task.{Task}
use Rattle.agenda_cases.specs.declared.entries.Peak.{Peak}
use Rattle.agenda_cases.specs.Lexical.{rising, falling, lexical}
use Rattle.agenda_cases.proofs.entries.orders_stand.Goals as goal

pub returns : goal.returns
returns c = record {
  tasks = lexical ltb rising (λ (t : Task). t.cost) (λ t. t.node) (λ x y p q. λ i. record { cost = p i; node = q i });
  peaks = lexical (λ x y. ltb y x) falling (λ (p : Peak). p.height.0) (λ p. p.place) (λ x y p q. λ i. record { height = record { 0 = p i }; place = q i });
}
