-- Where and why a load stops, as a relation. Assumes nothing.
--   Reached w s d   the bytes w are commands that meet every check, and lead to the stage s and the draft d
--   Stopped p o     the pack p is such bytes, and then bytes that are stopped by o
use Rattle.std.specs.Prelude.{◌≡◌, ℕ, ◌+◌, true, false, List, [], ◌∷◌, ◌++◌, length, Err}
use Rattle.grammar.specs.Commands.{Command, End, Incomplete, Unknown, next_of, is_end, bytes}
use Rattle.grammar.specs.Drafts.{Stage, Fresh, Draft, blank, apply}
use Rattle.grammar.specs.Checks.{filled, all_named, in_limits, allowed, start_fits, operands_fit, Passes}
use Rattle.grammar.specs.Stops.{Stop, stop_at, Reader, Grammar}

pub data Reached : List ℕ → Stage → Draft → Type 0 where
  nothing : Reached [] Fresh blank
  command : (w : List ℕ) (s : Stage) (d : Draft) (c : Command) → Reached w s d → Passes s d c → is_end c ≡ false
      → Reached (w ++ bytes c) (apply (length w) s d c).0 (apply (length w) s d c).1

-- the first check that the command at this offset does not meet
pub data Refused (at : ℕ) (s : Stage) (d : Draft) (c : Command) : Stop → Type 0 where
  by_6 : filled s d c ≡ false → Refused at s d c (stop_at 6 d.opened.offset Grammar)
  by_7 : filled s d c ≡ true → all_named s d c ≡ false → Refused at s d c (stop_at 7 d.opened.offset Grammar)
  by_4 : filled s d c ≡ true → all_named s d c ≡ true → in_limits s d c ≡ false → Refused at s d c (stop_at 4 at Grammar)
  by_3 : filled s d c ≡ true → all_named s d c ≡ true → in_limits s d c ≡ true → allowed s d c ≡ false → Refused at s d c (stop_at 3 at Grammar)
  by_8 : filled s d c ≡ true → all_named s d c ≡ true → in_limits s d c ≡ true → allowed s d c ≡ true → start_fits d c ≡ false
      → Refused at s d c (stop_at 8 at Grammar)
  by_5 : filled s d c ≡ true → all_named s d c ≡ true → in_limits s d c ≡ true → allowed s d c ≡ true → start_fits d c ≡ true → operands_fit d c ≡ false
      → Refused at s d c (stop_at 5 at Grammar)

-- what the bytes q at this offset are stopped by
pub data Because (at : ℕ) (s : Stage) (d : Draft) (q : List ℕ) : Stop → Type 0 where
  incomplete : next_of q ≡ Err Incomplete → Because at s d q (stop_at 1 at Reader)
  unknown : next_of q ≡ Err Unknown → Because at s d q (stop_at 2 at Reader)
  refused : (c : Command) (rest : List ℕ) (o : Stop) → q ≡ bytes c ++ rest → Refused at s d c o → Because at s d q o
  trailing : (b : ℕ) (rest : List ℕ) → q ≡ bytes End ++ b ∷ rest → Passes s d End → Because at s d q (stop_at 9 (at + 1) Grammar)

-- the pack is bytes that met every check, and then bytes that are stopped
pub record Stopped (p : List ℕ) (o : Stop) : Type 0 where
  pub before : List ℕ
  pub behind : List ℕ
  pub whole : before ++ behind ≡ p
  pub stage : Stage
  pub draft : Draft
  pub reached : Reached before stage draft
  pub because : Because (length before) stage draft behind o
