-- Tests of lists and of the numbers below a bound say what they should.
use Rattle.std.proofs.Common.{◌≡◌, ℕ, zero, suc, ◌<◌, ◌≤◌, Bool, true, false, ◌&&◌, ◌⊎◌, List, [], ◌∷◌, length, refl, ap, ◌∙◌, inl, inr, arith}
use mathlib.Core.Bool.{false≢true}
use Rattle.std.proofs.lemmas.Bool.{and_from, or_cases, or_left, or_right}
use Rattle.grammar.specs.Formed.{Each, Some}
use Rattle.grammar.specs.Checks.{has_some, all, any, all_below}

pub and_both : (x y : Bool) → (x && y) ≡ true → (x ≡ true) × (y ≡ true)
and_both true y e = (refl, e)
and_both false y e = absurd (false≢true e)

pub some_is : {X : Type 0} (xs : List X) → has_some xs ≡ true → 1 ≤ length xs
some_is [] e = absurd (false≢true e)
some_is (x ∷ xs) e = omega arith

pub is_some : {X : Type 0} (xs : List X) → 1 ≤ length xs → has_some xs ≡ true
is_some [] h = absurd (omega arith)
is_some (x ∷ xs) h = refl

module _ {X : Type 0} (f : X → Bool) (P : X → Type 0) where
  pub all_is : ((x : X) → f x ≡ true → P x) → (xs : List X) → all f xs ≡ true → Each P xs
  all_is h [] e = tt
  all_is h (x ∷ xs) e = let b = and_both (f x) (all f xs) e in (h x b.0, all_is h xs b.1)

  pub is_all : ((x : X) → P x → f x ≡ true) → (xs : List X) → Each P xs → all f xs ≡ true
  is_all h [] e = refl
  is_all h (x ∷ xs) e = and_from (f x) (all f xs) (h x e.0) (is_all h xs e.1)

  pub any_is : ((x : X) → f x ≡ true → P x) → (xs : List X) → any f xs ≡ true → Some P xs
  any_is h [] e = absurd (false≢true e)
  any_is h (x ∷ xs) e = elim (or_cases (f x) (any f xs) e) [ inl t ↦ inl (h x t) | inr t ↦ inr (any_is h xs t) ]

  pub is_any : ((x : X) → P x → f x ≡ true) → (xs : List X) → Some P xs → any f xs ≡ true
  is_any h [] e = absurd e
  is_any h (x ∷ xs) (inl t) = or_left (f x) (any f xs) (h x t)
  is_any h (x ∷ xs) (inr t) = or_right (f x) (any f xs) (is_any h xs t)

below_or_last : (j n : ℕ) → j < suc n → (j < n) ⊎ (j ≡ n)
below_or_last zero zero h = inr refl
below_or_last zero (suc n) h = inl (omega arith)
below_or_last (suc j) zero h = absurd (omega arith)
below_or_last (suc j) (suc n) h = elim (below_or_last j n (omega arith)) [ inl l ↦ inl (omega arith) | inr q ↦ inr (ap suc q) ]

pub below_is : (n : ℕ) (f : ℕ → Bool) → all_below n f ≡ true → (j : ℕ) → j < n → f j ≡ true
below_is zero f e j h = absurd (omega arith)
below_is (suc n) f e j h =
    let b = and_both (all_below n f) (f n) e in
    elim (below_or_last j n h) [ inl l ↦ below_is n f b.0 j l | inr q ↦ ap f q ∙ b.1 ]

pub is_below : (n : ℕ) (f : ℕ → Bool) → ((j : ℕ) → j < n → f j ≡ true) → all_below n f ≡ true
is_below zero f h = refl
is_below (suc n) f h = and_from (all_below n f) (f n) (is_below n f (λ j l. h j (omega arith))) (h n (omega arith))
