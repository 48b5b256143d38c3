-- What is left on the stack at the end.
use Rattle.std.proofs.Common.{◌≡◌, ℕ, List, [], ◌∷◌, length, get_or, take, Err, Result, refl, ap, arith}
use Rattle.grammar.specs.Grammars.{GrammarModel}
use Rattle.replay.specs.Stops.{Stop, stop_at}
use Rattle.replay.specs.Replays.{Yield, phrase_of, finish}
use Rattle.replay.specs.Shapes.{Lengths, One, Two, Shape, first, cut, laid_out}
use Rattle.replay.proofs.Laid.{no_shape, length_laid}

first_string : (l : Lengths) (ts : List ℕ) → take (first l) ts ≡ get_or (cut l ts) 0 []
first_string (One n) ts = refl
first_string (Two n m) ts = refl

module _ (ss : List Shape) (ts : List ℕ) where
  pub not_one : (g : GrammarModel) (room : ℕ) → (length ss ≡ 1 → ⊥) → finish g room (laid_out ss ts) ≡ Err (stop_at 17 (length ss))
  not_one g room h = go ss h
    where
      go : (rs : List Shape) → (length rs ≡ 1 → ⊥) → finish g room (laid_out rs ts) ≡ Err (stop_at 17 (length rs))
      go [] h = refl
      go (s ∷ []) h = absurd (h refl)
      go (s ∷ r ∷ rs) h = ap {B = Result (List ℕ) Stop} (λ (n : ℕ). Err (stop_at 17 n)) (length_laid (s ∷ r ∷ rs) ts)

  -- the only yield
  module _ (one : length ss ≡ 1) where
    abbrev x : Shape
    x = get_or ss 0 no_shape

    only : ss ≡ x ∷ []
    only = go ss one
      where
        go : (rs : List Shape) → length rs ≡ 1 → rs ≡ get_or rs 0 no_shape ∷ []
        go [] h = absurd (omega arith)
        go (s ∷ []) h = refl
        go (s ∷ r ∷ rs) h = absurd (omega arith)

    pub top : (y : Yield) × (laid_out ss ts ≡ y ∷ []) × (y.category ≡ x.category) × (take (first x.lengths) ts ≡ phrase_of y)
    top = (_, ap (λ (rs : List Shape). laid_out rs ts) only, refl, first_string x.lengths ts)
