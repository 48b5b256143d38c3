-- Lists that are printed one entry after another.
use Rattle.std.proofs.Common.{◌≡◌, ℕ, ◌+◌, List, [], ◌∷◌, ◌++◌, map, refl, ap, ◌∙◌, append_assoc}
use Rattle.console.specs.Texts.{listed}

-- a list of other values, printed by what they stand for
pub listed_map : {X Y : Type 0} (f : ℕ → Y → List ℕ) (g : X → Y) (i : ℕ) (xs : List X) → listed (λ j x. f j (g x)) i xs ≡ listed f i (map g xs)
listed_map f g i [] = refl
listed_map f g i (x ∷ xs) = ap (λ t. f i (g x) ++ t) (listed_map f g (i + 1) xs)

pub appended : (start before after a b : List ℕ) → before ≡ start ++ a → after ≡ before ++ b → after ≡ start ++ (a ++ b)
appended start before after a b e f = f ∙ ap (λ t. t ++ b) e ∙ append_assoc start a b
