-- Productions as the rules of a search: a production gives its category from its arguments, at its weight. Assumes nothing.
--   TreeRule A exact m p o   o is the rule of production p
use Rattle.std.specs.Prelude.{◌≡◌, ℕ, Some, None, Option}
use Rattle.weight.specs.Algebra.{Algebra}
use Rattle.grammar.specs.Grammars.{GrammarModel, production}
use Rattle.estimate.specs.declared.rules.Rule.{Rule}
use Rattle.estimate.specs.Rules.{premises_of}

-- Every production is a rule.
abbrev pub TreeRule : (A : Algebra) {W : Type 0} → (W → A.Exact) → GrammarModel → ℕ → Option (Rule W) → Type 0
TreeRule A exact m p None = ⊥
TreeRule A exact m p (Some r) =
    (r.result ≡ (production m p).category) × (premises_of r.premises ≡ (production m p).arguments) × (exact r.price ≡ A.taken (production m p).weight)
