-- Lists whose entries all have a property.
use Rattle.std.proofs.Common.{◌≡◌, ℕ, zero, suc, ◌+◌, ◌<◌, List, [], ◌∷◌, ◌++◌, length, get_or, arith, length-append}
use Rattle.grammar.specs.Formed.{Each}

module _ {X : Type 0} (P : X → Type 0) where
  pub each_append : (xs ys : List X) → Each P xs → Each P ys → Each P (xs ++ ys)
  each_append [] ys h k = k
  each_append (x ∷ xs) ys h k = (h.0, each_append xs ys h.1 k)

  pub each_push : (xs : List X) (x : X) → Each P xs → P x → Each P (xs ++ x ∷ [])
  each_push xs x h k = each_append xs (x ∷ []) h (k, tt)

  pub each_last : (xs : List X) (x : X) → Each P (xs ++ x ∷ []) → P x
  each_last [] x h = h.0
  each_last (y ∷ ys) x h = each_last ys x h.1

  pub each_at : (xs : List X) (i : ℕ) (d : X) → Each P xs → i < length xs → P (get_or xs i d)
  each_at [] i d h l = absurd (omega arith)
  each_at (x ∷ xs) zero d h l = h.0
  each_at (x ∷ xs) (suc i) d h l = each_at xs i d h.1 (omega arith)

  pub each_map : (Q : X → Type 0) (xs : List X) → ((x : X) → P x → Q x) → Each P xs → Each Q xs
  each_map Q [] f h = tt
  each_map Q (x ∷ xs) f h = (f x h.0, each_map Q xs f h.1)

pub length_push : {X : Type 0} (xs : List X) (x : X) → length (xs ++ x ∷ []) ≡ length xs + 1
length_push xs x = length-append xs (x ∷ [])
