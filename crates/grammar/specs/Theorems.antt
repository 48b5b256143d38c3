-- What loading means, for every pack. Assumes nothing.
--   Holds r m     the answer r holds the grammar m
--   StopsBy r o   the answer r is the stop o
--   Loaded p r    r is the answer to the pack p
--   Packing       every well-formed grammar has one pack
use Rattle.std.specs.Prelude.{◌≡◌, ℕ, ◌↔◌, List, Ok, Err, Result, ◌≢◌}
use Rattle.grammar.specs.declared.held.Grammar.{Grammar}
use Rattle.grammar.specs.Grammars.{GrammarModel}
use Rattle.grammar.specs.Formed.{WellFormed}
use Rattle.grammar.specs.Encoding.{encode}
use Rattle.grammar.specs.Commands.{Bytes}
use Rattle.grammar.specs.Stops.{PackStop, Stop, told}
use Rattle.grammar.specs.Loads.{load_of}
use Rattle.grammar.specs.Stopping.{Stopped}
use Rattle.grammar.specs.Model.{model}

abbrev pub Holds : Result Grammar PackStop → GrammarModel → Type 0
Holds (Ok g) m = model g ≡ m
Holds (Err e) m = ⊥

abbrev pub StopsBy : Result Grammar PackStop → Stop → Type 0
StopsBy (Ok g) o = ⊥
StopsBy (Err e) o = told e ≡ o

-- the pack p is the encoding of no well-formed grammar
abbrev pub NoGrammar : List ℕ → Type 0
NoGrammar p = (m : GrammarModel) → WellFormed m → encode m ≢ p

pub record Loaded (p : List ℕ) (r : Result Grammar PackStop) : Type 0 where
  -- it answers the grammar m exactly when m is well formed and within the limits, and p is m's encoding
  pub taken : (m : GrammarModel) → Holds r m ↔ (WellFormed m × (encode m ≡ p))
  -- it is the stop o exactly when the pack has the reason for o
  pub stopped : (o : Stop) → StopsBy r o ↔ Stopped p o
  -- every pack that is no such encoding is stopped, by one stop alone
  pub otherwise : NoGrammar p → (o : Stop) × Stopped p o × ((q : Stop) → Stopped p q → q ≡ o)

pub record Packing : Type 0 where
  -- every well-formed grammar has a pack
  pub has_pack : (m : GrammarModel) → WellFormed m → Bytes (encode m) × (load_of (encode m) ≡ Ok m)
  -- no two packs load to one grammar
  pub one_pack : (p q : List ℕ) (m : GrammarModel) → Bytes p → Bytes q → load_of p ≡ Ok m → load_of q ≡ Ok m → p ≡ q
