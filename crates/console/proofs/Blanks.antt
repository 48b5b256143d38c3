-- Blank is: each byte is a space or a tab.
use Rattle.std.proofs.Common.{◌≡◌, ℕ, Bool, ◌||◌, ◌&&◌, eqb, List, [], ◌∷◌, refl, ap}
use Rattle.std.specs.List.{list_all}
use Rattle.console.specs.Steps.{blank}

abbrev pub space : ℕ → Bool
space c = eqb c 32 || eqb c 9

pub all_space : (t : List ℕ) → list_all space t ≡ blank t
all_space [] = refl
all_space (c ∷ cs) = ap (λ b. (eqb c 32 || eqb c 9) && b) (all_space cs)
