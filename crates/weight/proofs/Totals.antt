-- What the laws give of a row's total. Assumes nothing.
use Rattle.std.proofs.Common.{◌≡◌, ℕ, ◌+◌, ◌<◌, List, [], ◌∷◌, ◌++◌, length, get_or, take, drop, sym, ap, ◌∙◌, subst, take-append-drop}
use Rattle.std.proofs.lemmas.List.{take_more}
use Rattle.weight.specs.Algebra.{Algebra, Lawful, Le, total}
use Rattle.weight.proofs.Orders.{le_whole, lt_le_lt, plus_none}

module _ {A : Algebra} (laws : Lawful A) {W : Type 0} (exact : W → A.Exact) where
  pub total_append : (xs ys : List W) → total A exact (xs ++ ys) ≡ A.plus (total A exact xs) (total A exact ys)
  total_append [] ys = sym (laws.identity (total A exact ys))
  total_append (x ∷ xs) ys =
      ap (A.plus (exact x)) (total_append xs ys) ∙ sym (laws.assoc (exact x) (total A exact xs) (total A exact ys))

  -- one element more of xs
  pub total_more : (xs : List W) (i : ℕ) (x : W) → i < length xs → x ≡ get_or xs i x
      → total A exact (take (i + 1) xs) ≡ A.plus (total A exact (take i xs)) (exact x)
  total_more xs i x within read =
      let pushed : take (i + 1) xs ≡ take i xs ++ (x ∷ []) = take_more xs i x within ∙ ap (λ y. take i xs ++ (y ∷ [])) (sym read) in
      ap (total A exact) pushed ∙ total_append (take i xs) (x ∷ []) ∙ ap (A.plus (total A exact (take i xs))) (plus_none laws (exact x))

  -- a front is not above the whole
  pub total_front : (xs : List W) (i : ℕ) → Le A (total A exact (take i xs)) (total A exact xs)
  total_front xs i =
      let P : A.Exact → Type 0 = λ e. Le A (total A exact (take i xs)) e in
      let whole = laws.comm (total A exact (drop i xs)) (total A exact (take i xs)) ∙ sym (total_append (take i xs) (drop i xs)) ∙ ap (total A exact) (take-append-drop i xs) in
      subst P whole (le_whole laws (total A exact (drop i xs)) (total A exact (take i xs)))

  -- the front's combination, with one element more
  pub total_next : (xs : List W) (i : ℕ) (x : W) (e : A.Exact) → i < length xs → x ≡ get_or xs i x → e ≡ total A exact (take i xs)
      → A.plus e (exact x) ≡ total A exact (take (i + 1) xs)
  total_next xs i x e within read so_far =
      ap (λ y. A.plus y (exact x)) so_far ∙ sym (total_more xs i x within read)

  -- where that is above the ceiling, so is the whole
  pub total_over : (xs : List W) (i : ℕ) (x : W) (e : A.Exact) → i < length xs → x ≡ get_or xs i x → e ≡ total A exact (take i xs)
      → A.lt A.ceiling (A.plus e (exact x)) → A.lt A.ceiling (total A exact xs)
  total_over xs i x e within read so_far over =
      let front = total A exact (take (i + 1) xs) in
      let P : A.Exact → Type 0 = λ y. A.lt A.ceiling y in
      lt_le_lt laws A.ceiling front (total A exact xs) (subst P (total_next xs i x e within read so_far) over) (total_front xs (i + 1))
