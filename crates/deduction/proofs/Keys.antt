-- Words, pairs of a cost and a word, and keys are ordered. Assumes nothing.
use Rattle.std.proofs.Common.{◌≡◌, ℕ, ◌<◌, ◌⊎◌, List, [], ◌∷◌, ◌++◌, sym, refl, ap, ◌∙◌, subst, ap₂, inl, inr, arith}
use Rattle.std.proofs.lemmas.Bool.{cases_order}
use Rattle.weight.specs.Algebra.{Algebra, Lawful, Le}
use Rattle.weight.proofs.Orders.{lt_le, le_cases, le_lt, lt_le_lt, le_plus, le_plus_right, lt_plus_right, le_eq}
use Rattle.deduction.specs.Deduction.{Sooner, NotLater, Upto, Key, Before, NotAfter}

-- ---- words

pub sooner_front : (fs xs ys : List ℕ) → Sooner xs ys → Sooner (fs ++ xs) (fs ++ ys)
sooner_front [] xs ys h = h
sooner_front (f ∷ fs) xs ys h = inr (refl, sooner_front fs xs ys h)

pub sooner_more : (xs ys r s : List ℕ) → Sooner xs ys → Sooner (xs ++ r) (ys ++ s)
sooner_more [] ys r s h = absurd h
sooner_more (x ∷ xs) [] r s h = absurd h
sooner_more (x ∷ xs) (y ∷ ys) r s (inl lt) = inl lt
sooner_more (x ∷ xs) (y ∷ ys) r s (inr h) = inr (h.0, sooner_more xs ys r s h.1)

pub sooner_irrefl : (xs : List ℕ) → Sooner xs xs → ⊥
sooner_irrefl [] h = h
sooner_irrefl (x ∷ xs) (inl lt) = omega arith
sooner_irrefl (x ∷ xs) (inr h) = sooner_irrefl xs h.1

pub sooner_trans : (xs ys zs : List ℕ) → Sooner xs ys → Sooner ys zs → Sooner xs zs
sooner_trans [] ys zs h g = absurd h
sooner_trans (x ∷ xs) [] zs h g = absurd h
sooner_trans (x ∷ xs) (y ∷ ys) [] h g = absurd g
sooner_trans (x ∷ xs) (y ∷ ys) (z ∷ zs) (inl h) (inl g) = inl (omega arith)
sooner_trans (x ∷ xs) (y ∷ ys) (z ∷ zs) (inl h) (inr g) = inl (omega (arith, g.0))
sooner_trans (x ∷ xs) (y ∷ ys) (z ∷ zs) (inr h) (inl g) = inl (omega (arith, h.0))
sooner_trans (x ∷ xs) (y ∷ ys) (z ∷ zs) (inr h) (inr g) = inr (h.0 ∙ g.0, sooner_trans xs ys zs h.1 g.1)

pub not_later_trans : (xs ys zs : List ℕ) → NotLater xs ys → NotLater ys zs → NotLater xs zs
not_later_trans xs ys zs (inl h) (inl g) = inl (h ∙ g)
not_later_trans xs ys zs (inl h) (inr g) = inr (subst (λ (w : List ℕ). Sooner w zs) (sym h) g)
not_later_trans xs ys zs (inr h) (inl g) = inr (subst (λ (w : List ℕ). Sooner xs w) g h)
not_later_trans xs ys zs (inr h) (inr g) = inr (sooner_trans xs ys zs h g)

pub not_later_join : (xs ys r s : List ℕ) → NotLater xs ys → NotLater r s → NotLater (xs ++ r) (ys ++ s)
not_later_join xs ys r s (inl h) (inl g) = inl (ap₂ ◌++◌ h g)
not_later_join xs ys r s (inl h) (inr g) = inr (subst (λ (w : List ℕ). Sooner (xs ++ r) (w ++ s)) h (sooner_front xs r s g))
not_later_join xs ys r s (inr h) g = inr (sooner_more xs ys r s h)

module _ {A : Algebra} (laws : Lawful A) where
  -- ---- pairs of a cost and a word
  pub upto_refl : (a : A.Exact) (v : List ℕ) → Upto A a v a v
  upto_refl a v = inr (refl, inl refl)

  pub upto_le : (a b : A.Exact) (v w : List ℕ) → Upto A a v b w → Le A a b
  upto_le a b v w (inl h) = lt_le laws a b h
  upto_le a b v w (inr h) = le_eq laws a b h.0

  pub upto_trans : (a b c : A.Exact) (u v w : List ℕ) → Upto A a u b v → Upto A b v c w → Upto A a u c w
  upto_trans a b c u v w (inl h) g = inl (lt_le_lt laws a b c h (upto_le b c v w g))
  upto_trans a b c u v w (inr h) (inl g) = inl (subst (λ (x : A.Exact). A.lt x c) (sym h.0) g)
  upto_trans a b c u v w (inr h) (inr g) = inr (h.0 ∙ g.0, not_later_trans u v w h.1 g.1)

  pub upto_join : (a b a' b' : A.Exact) (v w v' w' : List ℕ) → Upto A a v b w → Upto A a' v' b' w' → Upto A (A.plus a a') (v ++ v') (A.plus b b') (w ++ w')
  upto_join a b a' b' v w v' w' (inl h) g =
      inl (lt_le_lt laws (A.plus a a') (A.plus b a') (A.plus b b') (laws.rises a b a' h) (le_plus_right laws b a' b' (upto_le a' b' v' w' g)))
  upto_join a b a' b' v w v' w' (inr h) (inl g) =
      inl (le_lt laws (A.plus a a') (A.plus b a') (A.plus b b') (le_plus laws a b a' (le_eq laws a b h.0)) (lt_plus_right laws b a' b' g))
  upto_join a b a' b' v w v' w' (inr h) (inr g) = inr (ap₂ A.plus h.0 g.0, not_later_join v w v' w' h.1 g.1)

  -- ---- a first part, and then the rest
  lex_trans : (a b c : A.Exact) (P Q R : Type 0) → (P → Q → R) → A.lt a b ⊎ ((a ≡ b) × P) → A.lt b c ⊎ ((b ≡ c) × Q) → A.lt a c ⊎ ((a ≡ c) × R)
  lex_trans a b c P Q R f (inl h) (inl g) = inl (laws.trans a b c h g)
  lex_trans a b c P Q R f (inl h) (inr g) = inl (subst (λ (x : A.Exact). A.lt a x) g.0 h)
  lex_trans a b c P Q R f (inr h) (inl g) = inl (subst (λ (x : A.Exact). A.lt x c) (sym h.0) g)
  lex_trans a b c P Q R f (inr h) (inr g) = inr (h.0 ∙ g.0, f h.1 g.1)

  lex_irrefl : (a : A.Exact) (P : Type 0) → (P → ⊥) → A.lt a a ⊎ ((a ≡ a) × P) → ⊥
  lex_irrefl a P f (inl h) = laws.irrefl a h
  lex_irrefl a P f (inr h) = f h.1

  lex_order : (a b : A.Exact) (E P Q : Type 0) → E ⊎ (P ⊎ Q) → ((a ≡ b) × E) ⊎ ((A.lt a b ⊎ ((a ≡ b) × P)) ⊎ (A.lt b a ⊎ ((b ≡ a) × Q)))
  lex_order a b E P Q o =
      elim (A.order a b) [
        | inl h ↦ elim o [ inl x ↦ inl (h, x) | inr y ↦ elim y [ inl p ↦ inr (inl (inr (h, p))) | inr q ↦ inr (inr (inr (sym h, q))) ] ]
        | inr h ↦ elim h [ inl l ↦ inr (inl (inl l)) | inr l ↦ inr (inr (inl l)) ]
      ]

  -- ---- keys
  pub before_trans : (k l m : Key A) → Before A k l → Before A l m → Before A k m
  before_trans k l m =
      lex_trans k.whole l.whole m.whole (A.lt k.cost l.cost ⊎ ((k.cost ≡ l.cost) × (k.item < l.item))) (A.lt l.cost m.cost ⊎ ((l.cost ≡ m.cost) × (l.item < m.item))) (A.lt k.cost m.cost ⊎ ((k.cost ≡ m.cost) × (k.item < m.item)))
      (lex_trans k.cost l.cost m.cost (k.item < l.item) (l.item < m.item) (k.item < m.item) (λ h g. omega arith))

  pub before_irrefl : (k : Key A) → Before A k k → ⊥
  before_irrefl k =
      lex_irrefl k.whole (A.lt k.cost k.cost ⊎ ((k.cost ≡ k.cost) × (k.item < k.item))) (lex_irrefl k.cost (k.item < k.item) (λ h. omega arith))

  -- two keys are the same, or one is before the other
  pub key_order : (k l : Key A) → ((k.whole ≡ l.whole) × ((k.cost ≡ l.cost) × (k.item ≡ l.item))) ⊎ (Before A k l ⊎ Before A l k)
  key_order k l =
      lex_order k.whole l.whole ((k.cost ≡ l.cost) × (k.item ≡ l.item)) (A.lt k.cost l.cost ⊎ ((k.cost ≡ l.cost) × (k.item < l.item))) (A.lt l.cost k.cost ⊎ ((l.cost ≡ k.cost) × (l.item < k.item)))
      (lex_order k.cost l.cost (k.item ≡ l.item) (k.item < l.item) (l.item < k.item) (cases_order k.item l.item))

  same_key : (k l : Key A) → (k.whole ≡ l.whole) × ((k.cost ≡ l.cost) × (k.item ≡ l.item)) → k ≡ l
  same_key k l h = λ i. record { whole = h.0 i; cost = h.1.0 i; item = h.1.1 i }

  pub not_after_cases : (k l : Key A) → NotAfter A k l → (k ≡ l) ⊎ Before A k l
  not_after_cases k l n = elim (key_order k l) [ inl h ↦ inl (same_key k l h) | inr o ↦ elim o [ inl b ↦ inr b | inr b ↦ absurd (n b) ] ]

  pub not_after_refl : (k : Key A) → NotAfter A k k
  not_after_refl k = before_irrefl k

  pub before_not_after : (k l : Key A) → Before A k l → NotAfter A k l
  before_not_after k l h g = before_irrefl k (before_trans k l k h g)

  pub not_after_before : (k l m : Key A) → NotAfter A k l → Before A l m → Before A k m
  not_after_before k l m n b =
      elim (not_after_cases k l n) [ inl h ↦ subst (λ (j : Key A). Before A j m) (sym h) b | inr h ↦ before_trans k l m h b ]

  pub before_not_after_before : (k l m : Key A) → Before A k l → NotAfter A l m → Before A k m
  before_not_after_before k l m b n =
      elim (not_after_cases l m n) [ inl h ↦ subst (λ (j : Key A). Before A k j) h b | inr h ↦ before_trans k l m b h ]

  pub not_after_trans : (k l m : Key A) → NotAfter A k l → NotAfter A l m → NotAfter A k m
  not_after_trans k l m n o b = n (not_after_before l m k o b)

  -- two keys of which neither is after the other have one item
  pub not_after_item : (k l : Key A) → NotAfter A k l → NotAfter A l k → k.item ≡ l.item
  not_after_item k l n o = elim (not_after_cases k l n) [ inl h ↦ ap (λ (j : Key A). j.item) h | inr h ↦ absurd (o h) ]

  -- not after, and of another item
  pub not_after_other : (k l : Key A) → NotAfter A k l → (k.item ≡ l.item → ⊥) → Before A k l
  not_after_other k l n other = elim (not_after_cases k l n) [ inl h ↦ absurd (other (ap (λ (j : Key A). j.item) h)) | inr h ↦ h ]

  pub before_by_cost : (k l : Key A) → Le A k.whole l.whole → A.lt k.cost l.cost → Before A k l
  before_by_cost k l h g = elim (le_cases laws k.whole l.whole h) [ inl same ↦ inr (same, inl g) | inr below ↦ inl below ]
