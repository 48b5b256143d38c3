-- What an estimate is: a weight for each category, fixed by the grammar and the kind of weight alone. Assumes nothing.
--   AllLightest A m cs ws   ws are the lightest weights of the categories cs
--   Consistent A m e        no estimate is above what the way from its category to the start can weigh
--   Sound A m e             what each estimate keeps
--   NowhereLower A m e f    at no category is e below f
--   Raised                  a row became the larger of what it held and an estimate
use Rattle.std.specs.Prelude.{◌≡◌, ℕ, ◌<◌, List, [], ◌∷◌, length, drop, slice_index, slice_index_or}
use Rattle.weight.specs.Algebra.{Algebra, Le, larger, total}
use Rattle.grammar.specs.Grammars.{GrammarModel, production}
use Rattle.deduction.specs.Deduction.{but}
use Rattle.estimate.specs.Weighing.{categories, Lightest}

-- Each of cs has a lightest weight, and ws are these in order.
abbrev pub AllLightest : (A : Algebra) → GrammarModel → List ℕ → List A.Exact → Type 0
AllLightest A m [] [] = Unit {0}
AllLightest A m [] (w ∷ ws) = ⊥
AllLightest A m (c ∷ cs) [] = ⊥
AllLightest A m (c ∷ cs) (w ∷ ws) = Lightest A m c w × AllLightest A m cs ws

-- The combination of some exact weights.
abbrev pub together : (A : Algebra) → List A.Exact → A.Exact
together A ws = total A (λ w. w) ws

-- For production p, and its argument i whose fellow arguments all have a lightest weight,
-- the argument's estimate is not above that of the production's category combined with the production's weight and those lightest weights.
abbrev pub Consistent : (A : Algebra) → GrammarModel → (ℕ → A.Exact) → Type 0
Consistent A m e =
    (p i : ℕ) (ws : List A.Exact) → p < length m.productions → i < length (production m p).arguments
    → AllLightest A m (but i (production m p).arguments) ws
    → Le A (e (slice_index (production m p).arguments i)) (A.plus (A.plus (e (production m p).category) (A.taken (production m p).weight)) (together A ws))

-- What each estimate keeps: the start has none, and it is consistent.
pub record Sound (A : Algebra) (m : GrammarModel) (e : ℕ → A.Exact) : Type 0 where
  pub start : e m.start ≡ A.none
  pub consistent : Consistent A m e

-- At no category is e below f.
abbrev pub NowhereLower : (A : Algebra) → GrammarModel → (e f : ℕ → A.Exact) → Type 0
NowhereLower A m e f = (c : ℕ) → c < categories m → Le A (f c) (e c)

-- Each of the first n entries became the larger of what it was and the estimate there; the others are as they were.
pub record Raised (A : Algebra) {W : Type 0} (exact : W → A.Exact) (n : ℕ) (own : ℕ → W) (before after : List W) : Type 0 where
  pub each : (c : ℕ) (d : W) → c < n → slice_index_or after c d ≡ larger A exact (slice_index_or before c d) (own c)
  pub rest : drop n after ≡ drop n before
