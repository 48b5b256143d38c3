-- What a write to one field of a cell leaves, and an exchange of two entries. Assumes nothing.
use Rattle.std.proofs.Common.{◌≡◌, ℕ, suc, ◌<◌, ◌≤◌, List, [], ◌∷◌, map, length, get_or, take, set, replicate, sym, refl, ap, ◌∙◌, subst, inl, inr, arith, length-set}
use Rattle.std.specs.List.Sorted.{IsPermutation}
use Rattle.std.specs.List as holes
use Rattle.std.proofs.lemmas.List.{map-set, get_or-map, set-get_or, get_or-set_same, get_or-set_other, length-take-le, length-map}
use Rattle.std.proofs.lemmas.List.Edits.{swap_is, swapped_from_swap}
use Rattle.std.proofs.ByRecursion.{has_get_or, has_shuffled}
use Rattle.std.proofs.lemmas.List.Sorted.{IsPermutation-swap, IsPermutation-sym, length_permutation}
use Rattle.std.proofs.lemmas.Bool.{cases_eq}
use Rattle.agenda.proofs.Ends.{set_taken}
use Rattle.agenda.specs.declared.cells.Cell.{Cell}
use Rattle.agenda.specs.Cells.{held, entries_of, Untouched}
use Rattle.agenda.specs.Places.{Swaps, Absent, Present}

-- a field that a write leaves
pub map_set_same : {C X : Type 0} (f : C → X) (cs : List C) (i : ℕ) (c x : C) → i < length cs → f c ≡ f (get_or cs i x) → map f (set cs i c) ≡ map f cs
map_set_same f cs i c x l e = map-set f cs i c ∙ ap (set (map f cs) i) (e ∙ sym (get_or-map f cs i x (f x) l)) ∙ set-get_or (map f cs) i (f x)

-- the values a at i and b at j of the first n of xs, exchanged
module _ {X : Type 0} (xs : List X) (i j n : ℕ) (a b : X) (p : i < n) (q : j < n) (within : n ≤ length xs) (at_i : (d : X) → a ≡ get_or (take n xs) i d) (at_j : (d : X) → b ≡ get_or (take n xs) j d) where
  front : length (take n xs) ≡ n
  front = length-take-le n xs within

  is : take n (set (set xs i b) j a) ≡ holes.swap (take n xs) i j
  is =
      let u : b ≡ get_or (take n xs) j a = at_j a in
      let v : a ≡ get_or (take n xs) i a = at_i a in
      set_taken (set xs i b) n j a ∙ ap (λ l. set l j a) (set_taken xs n i b) ∙ (λ k. set (set (take n xs) i (u k)) j (v k)) ∙ swap_is (take n xs) i j a (omega (arith, front)) (omega (arith, front))

  pub exchange_shuffles : IsPermutation (take n xs) (take n (set (set xs i b) j a))
  exchange_shuffles = IsPermutation-swap (take n xs) (take n (set (set xs i b) j a)) i j (omega (arith, front)) (omega (arith, front)) is

  pub exchange_swaps : Swaps (take n xs) (take n (set (set xs i b) j a)) i j
  exchange_swaps d = swapped_from_swap (take n xs) (take n (set (set xs i b) j a)) i j d (omega (arith, front)) (omega (arith, front)) is

pub held_length : {X : Type 0} (cells : List (Cell X)) (n : ℕ) → n ≤ length cells → length (held cells n) ≡ n
held_length cells n h = length-take-le n (entries_of cells) (omega (arith, length-map cells (λ c. c.entry)))

-- an index that none of some entries has
module _ {X : Type 0} (ix : X → ℕ) where
  pub absent_shuffled : (xs ys : List X) (k : ℕ) → IsPermutation xs ys → Absent ix xs k → Absent ix ys k
  absent_shuffled xs ys k s none i d l e =
      let at = has_shuffled ys xs (get_or ys i d) (IsPermutation-sym xs ys s) (has_get_or ys i d l) in
      none at.0 d at.1 (ap ix (at.2 d) ∙ e)

  pub absent_tail : (x : X) (xs : List X) (k : ℕ) → Absent ix (x ∷ xs) k → Absent ix xs k
  absent_tail x xs k none i d l e = none (suc i) d (omega arith) e

  pub absent_set : (xs : List X) (k p : ℕ) (e : X) → Present ix xs (ix e) p → Absent ix xs k → Absent ix (set xs p e) k
  absent_set xs k p e at none i d l h =
      elim (cases_eq i p) [
        | inl same ↦ none p d at.0 (at.1 d ∙ ap ix (sym (get_or-set_same xs p e d at.0)) ∙ ap (λ j. ix (get_or (set xs p e) j d)) (sym same) ∙ h)
        | inr ne ↦ none i d (omega (arith, length-set xs p e)) (ap ix (sym (get_or-set_other xs p i e d ne)) ∙ h)
      ]

  -- the entry a is that at i, so k is not its index
  pub not_held : (xs : List X) (k : ℕ) → Absent ix xs k → (i : ℕ) (a : X) → i < length xs → ((d : X) → a ≡ get_or xs i d) → k ≡ ix a → ⊥
  not_held xs k none i a l at e = none i a l (ap ix (sym (at a)) ∙ sym e)

  -- what two steps over the same entries leave
  pub untouched_then : (xs ys : List X) (a b c : List (Cell X)) → IsPermutation xs ys → Untouched ix xs a b → Untouched ix ys b c → Untouched ix xs a c
  untouched_then xs ys a b c s h g k d past none =
      g k d (omega (arith, length_permutation xs ys s)) (absent_shuffled xs ys k s none) ∙ h k d past none

-- what calls of a closure give, each of which gives v and leaves the closure as it was
pub all_same : {P A : Type 0} (R : P → A → P → Type 0) (p : P) (v : A) → ((x : A) (q : P) → R p x q → (x ≡ v) × (q ≡ p)) → (xs : List A) (q : P) → holes.FoldsTo R p xs q → xs ≡ replicate (length xs) v
all_same R p v h [] q s = refl
all_same R p v h (x ∷ xs) q s =
    let one = h x s.0 s.1 in
    let more = all_same R p v h xs q (subst (λ j. holes.FoldsTo R j xs q) one.1 s.2) in
    λ i. one.0 i ∷ more i
