-- Chains from the start category, and the lightest of them. Assumes nothing.
--   Chain A m c w            a chain of steps from the start to c weighs w
--   LightestChain A m c w    no chain to c is lighter than w, and one weighs as much or w is the ceiling
--   ChainStep, ChainRule     such steps as the rules of a search, the start being known beforehand
--   RowWeight, RaisedBy      the category estimate by a row of chains, and a row raised by it
use Rattle.std.specs.Prelude.{◌≡◌, ℕ, ◌/◌, ◌%◌, ◌<◌, cond, ◌⊎◌, List, [], ◌∷◌, length, get_or, Some, None, Option, ◌==◌, ◌≢◌, slice_index, slice_index_or}
use Rattle.weight.specs.Algebra.{Algebra, Le, larger}
use Rattle.grammar.specs.Grammars.{GrammarModel, production}
use Rattle.deduction.specs.Deduction.{but}
use Rattle.estimate.specs.declared.rules.Rule.{Rule}
use Rattle.estimate.specs.Estimates.{AllLightest, together}
use Rattle.estimate.specs.Rules.{premises_of}
use Rattle.estimate.specs.Searches.{at, Open}

-- A chain from the start: a step goes from the category of a production to an argument whose fellows all have a lightest weight,
-- and adds the production's weight and those.
pub data Chain (A : Algebra) (m : GrammarModel) : ℕ → A.Exact → Type 0 where
  begin : Chain A m m.start A.none
  step : (p i : ℕ) (ws : List A.Exact) (w : A.Exact) → p < length m.productions → i < length (production m p).arguments
      → AllLightest A m (but i (production m p).arguments) ws → Chain A m (production m p).category w
      → Chain A m (slice_index (production m p).arguments i) (A.plus (A.plus w (A.taken (production m p).weight)) (together A ws))

-- w is the weight of the lightest chain to c, or the ceiling where no chain is below it.
pub record LightestChain (A : Algebra) (m : GrammarModel) (c : ℕ) (w : A.Exact) : Type 0 where
  pub within : Le A w A.ceiling
  pub least : (v : A.Exact) → Chain A m c v → Le A w v
  pub some : Chain A m c w ⊎ (w ≡ A.ceiling)

-- What a step from category a asks for: nothing where that is the start.
abbrev pub way : GrammarModel → ℕ → List ℕ
way m a = cond (a == m.start) [] (a ∷ [])

-- r is the step of production p to its argument i, which is not the start.
pub record ChainStep (A : Algebra) {W : Type 0} (exact : W → A.Exact) (m : GrammarModel) (p i : ℕ) (r : Rule W) : Type 0 where
  pub known : p < length m.productions
  pub argument : i < length (production m p).arguments
  pub weights : List A.Exact
  pub fellows : AllLightest A m (but i (production m p).arguments) weights
  pub away : get_or (production m p).arguments i 0 ≡ m.start → ⊥
  pub result : r.result ≡ slice_index (production m p).arguments i
  pub premises : premises_of r.premises ≡ way m (production m p).category
  pub price : exact r.price ≡ A.plus (A.taken (production m p).weight) (together A weights)

-- Number k is the step of production k / 3 to its argument k % 3; it has no rule where there is no such step within the ceiling.
abbrev pub ChainRule : (A : Algebra) {W : Type 0} → (W → A.Exact) → GrammarModel → ℕ → Option (Rule W) → Type 0
ChainRule A exact m k (Some r) = ChainStep A exact m (k / 3) (k % 3) r
ChainRule A exact m k None =
    (ws : List A.Exact) → k % 3 < length (production m (k / 3)).arguments → AllLightest A m (but (k % 3) (production m (k / 3)).arguments) ws
    → (slice_index (production m (k / 3)).arguments (k % 3) ≢ m.start) → A.lt A.ceiling (A.plus (A.taken (production m (k / 3)).weight) (together A ws))

-- r is what the category estimate has at c, by a row of chains: none at the start, else the row's weight, or the ceiling where it has none.
pub record RowWeight (A : Algebra) {W : Type 0} (exact : W → A.Exact) (nothing : W) (start : ℕ) (row : List W) (c : ℕ) (r : W) : Type 0 where
  pub at_start : c ≡ start → r ≡ nothing
  pub reached : (c ≢ start) → (Open A exact nothing row c → ⊥) → r ≡ at A exact nothing row c
  pub unreached : (c ≢ start) → Open A exact nothing row c → exact r ≡ A.ceiling

-- The row before became after, each entry the larger of what it was and of what the category estimate has there.
abbrev pub RaisedBy : (A : Algebra) {W : Type 0} → (W → A.Exact) → W → ℕ → (row before after : List W) → ℕ → Type 0
RaisedBy A {W} exact nothing start row before after n =
    (own : ℕ → W) → ((c : ℕ) (r : W) → c < length before → RowWeight A exact nothing start row c r → r ≡ own c) → (c : ℕ) (d : W) → c < n → slice_index_or after c d ≡ larger A exact (slice_index_or before c d) (own c)
