-- A chain that tests each entry of a list, or each number of a range, says what the definition says.
use Rattle.std.proofs.Common.{◌≡◌, ℕ, zero, suc, ◌+◌, Bool, ◌&&◌, ◌||◌, eqb, not, map, List, [], ◌∷◌, length, get_or, refl, ap, ◌∙◌, ap₂, sym, arith}
use Rattle.std.proofs.Math.Bool.{and_assoc, and-true}
use Rattle.std.proofs.lemmas.Bool.{ne_eqb}
use Rattle.std.specs.List.{range_with_len, enumerate_from, list_all}
use Rattle.grammar.specs.Checks.{has_some, any, all_below}

-- a list has an entry where its length is not 0
pub has_length : {X : Type 0} (xs : List X) → not (eqb (length xs) 0) ≡ has_some xs
has_length [] = refl
has_length (x ∷ xs) = ap not (ne_eqb (suc (length xs)) 0 (λ e. omega (arith, e)))

-- the number 0, and then those above it
below_front : (n : ℕ) (f : ℕ → Bool) → all_below (suc n) f ≡ (f 0 && all_below n (λ j. f (suc j)))
below_front zero f = sym (and-true (f 0))
below_front (suc n) f = ap (λ b. b && f (suc n)) (below_front n f) ∙ and_assoc (f 0) (all_below n (λ j. f (suc j))) (f (suc n))

pub all_range : (f g : ℕ → Bool) (a n : ℕ) → ((j : ℕ) → f (a + j) ≡ g j) → list_all f (range_with_len a n) ≡ all_below n g
all_range f g a zero h = refl
all_range f g a (suc n) h =
    let first : f a ≡ g 0 = let e : a ≡ a + 0 = omega arith in ap f e ∙ h 0 in
    let rest = all_range f (λ j. g (suc j)) (a + 1) n (λ j. let e : a + 1 + j ≡ a + suc j = omega arith in ap f e ∙ h (suc j)) in
    ap₂ (λ b c. b && c) first rest ∙ sym (below_front n g)

module _ (test : ℕ → ℕ → Bool) where
  pub all_numbered : (g : ℕ → Bool) (a : ℕ) (xs : List ℕ) → ((i : ℕ) → test (a + i) (get_or xs i 0) ≡ g i)
      → list_all (λ p. test p.0 p.1) (enumerate_from a xs) ≡ all_below (length xs) g
  all_numbered g a [] h = refl
  all_numbered g a (x ∷ xs) h =
      let first : test a x ≡ g 0 = let e : a ≡ a + 0 = omega arith in ap (λ i. test i x) e ∙ h 0 in
      let rest = all_numbered (λ i. g (suc i)) (a + 1) xs
      (λ i. let e : a + 1 + i ≡ a + suc i = omega arith in ap (λ k. test k (get_or xs i 0)) e ∙ h (suc i)) in
      ap₂ (λ b c. b && c) first rest ∙ sym (below_front (length xs) g)

module _ {X Y : Type 0} (f : Y → Bool) (g : X → Y) where
  pub any_map : (xs : List X) → any (λ x. f (g x)) xs ≡ any f (map g xs)
  any_map [] = refl
  any_map (x ∷ xs) = ap (λ b. f (g x) || b) (any_map xs)
