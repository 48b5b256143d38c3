-- A kind has one number, and a larger kind no smaller one. Assumes nothing.
use Rattle.std.proofs.Common.{◌≡◌, ℕ, suc, ◌<◌, ◌≤◌, ◌⊎◌, List, [], ◌∷◌, length, sym, refl, ap, ◌∙◌, subst, inl, inr, arith}
use Rattle.deduction.specs.Counts.{Among, Distinct, Listed, Number, Exceeds}

module _ {X : Type 0} where
  -- ys without the occurrence that h points at
  pub without : (x : X) (ys : List X) → Among x ys → List X
  without x [] h = absurd h
  without x (y ∷ ys) (inl e) = ys
  without x (y ∷ ys) (inr h) = y ∷ without x ys h

  pub length_without : (x : X) (ys : List X) (h : Among x ys) → length ys ≡ suc (length (without x ys h))
  unfolding without
  length_without x [] h = absurd h
  length_without x (y ∷ ys) (inl e) = refl
  length_without x (y ∷ ys) (inr h) = ap suc (length_without x ys h)

  pub among_without : (x z : X) (ys : List X) (h : Among x ys) → (z ≡ x → ⊥) → Among z ys → Among z (without x ys h)
  unfolding without
  among_without x z [] h ne a = absurd h
  among_without x z (y ∷ ys) (inl e) ne (inl k) = absurd (ne (k ∙ sym e))
  among_without x z (y ∷ ys) (inl e) ne (inr a) = a
  among_without x z (y ∷ ys) (inr h) ne (inl k) = inl k
  among_without x z (y ∷ ys) (inr h) ne (inr a) = inr (among_without x z ys h ne a)

  -- the pigeonhole principle
  pub fewer : (xs ys : List X) → Distinct xs → ((x : X) → Among x xs → Among x ys) → length xs ≤ length ys
  fewer [] ys d f = omega arith
  fewer (x ∷ xs) ys d f =
      let h = f x (inl refl) in
      let P : X → Type 0 = λ z. Among z xs in
      let k = fewer xs (without x ys h) d.1 (λ z a. among_without x z ys h (λ e. d.0 (subst P e a)) (f z (inr a))) in
      omega (arith, length_without x ys h)

  pub rising : (P Q : X → Type 0) (xs ys : List X) → ((x : X) → P x → Q x) → Listed P xs → Listed Q ys → length xs ≤ length ys
  rising P Q xs ys sub p q = fewer xs ys p.distinct (λ x a. q.complete x (sub x (p.sound x a)))

pub rising_number : {X : Type 0} (P Q : X → Type 0) (m n : ℕ) → ((x : X) → P x → Q x) → Number P m → Number Q n → m ≤ n
rising_number P Q m n sub p q = omega (arith, rising P Q p.0 q.0 sub p.1 q.1, p.2, q.2)

pub one_number : {X : Type 0} (P : X → Type 0) (m n : ℕ) → Number P m → Number P n → m ≡ n
one_number P m n p q = omega (arith, rising P P p.0 q.0 (λ x h. h) p.1 q.1, rising P P q.0 p.0 (λ x h. h) q.1 p.1, p.2, q.2)

-- what exceeds b is above it
pub exceeds_above : {X : Type 0} (P : X → Type 0) (b n : ℕ) → Exceeds P b → Number P n → b < n
exceeds_above P b n h p =
    omega (arith, fewer h.some p.0 h.distinct (λ x a. p.1.complete x (h.sound x a)), h.longer, p.2)

pub above_exceeds : {X : Type 0} (P : X → Type 0) (b n : ℕ) → Number P n → b < n → Exceeds P b
above_exceeds P b n p h = record { some = p.0; distinct = p.1.distinct; sound = p.1.sound; longer = omega (arith, p.2) }

-- ---- how a number is come by: none, the same under another name, and one more

pub number_none : {X : Type 0} (P : X → Type 0) → ((x : X) → P x → ⊥) → Number P 0
number_none P no_one = ([], record { distinct = tt; sound = λ x a. absurd a; complete = λ x p. no_one x p }, refl)

pub number_iff : {X : Type 0} (P Q : X → Type 0) (n : ℕ) → ((x : X) → P x → Q x) → ((x : X) → Q x → P x) → Number P n → Number Q n
number_iff P Q n to from p =
    let l = p.1 in
    (p.0, record { distinct = l.distinct; sound = λ x a. to x (l.sound x a); complete = λ x q. l.complete x (from x q) }, p.2)

pub number_more : {X : Type 0} (P : X → Type 0) (n : ℕ) (new : X) → (P new → ⊥) → Number P n → Number (λ x. P x ⊎ (x ≡ new)) (suc n)
number_more {X} P n new fresh p =
    let l = p.1 in (
      new ∷ p.0,
      record {
        distinct = (λ a. fresh (l.sound new a), l.distinct);
        sound = among;
        complete = found;
      },
      ap suc p.2,
    )
  where
    among : (x : X) → Among x (new ∷ p.0) → P x ⊎ (x ≡ new)
    among x (inl e) = inr e
    among x (inr a) = inl (p.1.sound x a)

    found : (x : X) → P x ⊎ (x ≡ new) → Among x (new ∷ p.0)
    found x (inl h) = inr (p.1.complete x h)
    found x (inr e) = inl e
