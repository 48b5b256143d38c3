-- What `push` and `pop` do to the first n entries before they sift. Assumes nothing.
use Rattle.std.proofs.Common.{◌≡◌, ℕ, zero, suc, ◌+◌, ◌-◌, ◌<◌, ◌≤◌, Bool, List, [], ◌∷◌, ◌++◌, length, get_or, take, set, sym, refl, ap, ◌∙◌, subst, arith, length-set}
use Rattle.std.specs.List.Sorted.{IsPermutation}
use Rattle.std.specs.List as holes
use Rattle.std.proofs.Permutation.{taken_at}
use Rattle.std.proofs.lemmas.List.{take-take, take_more_set, get_or-take, get_or-set_other, get_or_default, length-take-le}
use Rattle.std.proofs.lemmas.List.Sorted.{IsPermutation-sym, IsPermutation-to_front}
use Rattle.agenda.specs.Orders.{Ordered, Heap, Up, Down, First}
use Rattle.agenda.proofs.Sifts as sifts

pub set_taken : {X : Type 0} (xs : List X) (k i : ℕ) (y : X) → take k (set xs i y) ≡ set (take k xs) i y
set_taken [] zero i y = refl
set_taken [] (suc k) i y = refl
set_taken (x ∷ xs) zero zero y = refl
set_taken (x ∷ xs) zero (suc i) y = refl
set_taken (x ∷ xs) (suc k) zero y = refl
set_taken (x ∷ xs) (suc k) (suc i) y = ap (λ l. x ∷ l) (set_taken xs k i y)

module _ {X : Type 0} (lt : X → X → Bool) (xs : List X) where
  -- e is put after the first n
  module _ (n m : ℕ) (e : X) (room : n < length xs) (is : m ≡ n + 1) where
    part : take m (set xs n e) ≡ take n xs ++ e ∷ []
    part = ap (λ k. take k (set xs n e)) is ∙ take_more_set xs n e room

    part_length : length (take m (set xs n e)) ≡ n + 1
    part_length = length-take-le m (set xs n e) (omega (arith, length-set xs n e)) ∙ is

    pub push_start : IsPermutation (e ∷ take n xs) (take m (set xs n e))
    push_start = subst (λ l. IsPermutation (e ∷ take n xs) l) (sym part) (IsPermutation-sym _ _ (IsPermutation-to_front (take n xs) e))

    below : (k : ℕ) (d : X) → k < n → get_or (take m (set xs n e)) k d ≡ get_or (take n xs) k d
    below k d l = get_or-take m (set xs n e) k d (omega arith) ∙ get_or-set_other xs n k e d (omega arith) ∙ sym (get_or-take n xs k d l)

    pub push_up : Heap lt (take n xs) → Up lt (take m (set xs n e)) n
    push_up h d = (
      λ p k c l ne.
          let u : k < n = omega (arith, part_length) in
          sifts.by lt _ _ _ _ (below k d u) (below p d (omega arith)) (h d p k c (omega (arith, length-take-le n xs (omega arith)))),
      λ p k a b l. absurd (omega (arith, part_length)),
    )

  -- the last of the first n, v, is put in the place of the top, x
  module _ (n m : ℕ) (x v : X) (some : 0 < n) (within : n ≤ length xs) (is : m ≡ n - 1) (first : x ≡ get_or xs 0 x) (last : v ≡ get_or xs (n - 1) v) where
    front : length (take n xs) ≡ n
    front = length-take-le n xs within

    left : length (take m (set xs 0 v)) ≡ m
    left = length-take-le m (set xs 0 v) (omega (arith, length-set xs 0 v))

    top_is : (d : X) → x ≡ get_or (take n xs) 0 d
    top_is d = first ∙ get_or_default xs 0 x d (omega arith) ∙ sym (get_or-take n xs 0 d some)

    other : (k : ℕ) (d : X) → k < m → (k ≡ 0 → ⊥) → get_or (take m (set xs 0 v)) k d ≡ get_or (take n xs) k d
    other k d l ne = get_or-take m (set xs 0 v) k d l ∙ get_or-set_other xs 0 k v d ne ∙ sym (get_or-take n xs k d (omega arith))

    taken : holes.swap_remove (take n xs) 0 x ≡ take m (set xs 0 v)
    taken =
        let long : length (take n xs) - 1 ≡ m = omega (arith, front) in
        let w : get_or (take n xs) (length (take n xs) - 1) x ≡ v =
        ap (λ k. get_or (take n xs) k x) long ∙ get_or-take n xs m x (omega arith) ∙ ap (λ k. get_or xs k x) is ∙ get_or_default xs (n - 1) x v (omega arith) ∙ sym last in
        (λ k. take (long k) (set (take n xs) 0 (w k))) ∙ set_taken (take n xs) m 0 v ∙ ap (λ l. set l 0 v) (take-take m n xs (omega arith)) ∙ sym (set_taken xs m 0 v)

    pub pop_start : IsPermutation (take n xs) (x ∷ take m (set xs 0 v))
    pop_start = subst (λ l. IsPermutation (take n xs) (x ∷ l)) taken (taken_at (take n xs) 0 x (omega (arith, front)) (top_is x))

    pub pop_first : Ordered lt → Heap lt (take n xs) → First lt x (take n xs)
    pop_first o h k d l = sifts.by lt _ _ _ _ refl (top_is d) (sifts.top lt o (λ i. get_or (take n xs) i d) (length (take n xs)) (h d) k k (omega arith) l)

    pub pop_down : Heap lt (take n xs) → Down lt (take m (set xs 0 v)) 0
    pop_down h d = (
      λ p k c l ne.
          let u : k < m = omega (arith, left) in
          sifts.by lt _ _ _ _ (other k d u (omega arith)) (other p d (omega arith) ne) (h d p k c (omega (arith, front))),
      λ p k a b l. absurd (omega arith),
    )
