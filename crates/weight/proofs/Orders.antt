-- What the laws of exact weights give: the order, the combination and the larger of two. Assumes nothing.
use Rattle.std.proofs.Common.{◌≡◌, ◌⊎◌, sym, refl, ap, ◌∙◌, subst, inl, inr}
use Rattle.std.specs.Prelude.{cond}
use Rattle.std.specs.Ordering.{is_lt}
use Rattle.std.specs.declared.cmp.Ordering.TheVariants.{Less, Equal, Greater}
use Rattle.std.specs.declared.cmp.Ordering.{Ordering}
use Rattle.weight.specs.Algebra.{Algebra, Lawful, Le, Compared, larger, larger_of}

module _ {A : Algebra} (laws : Lawful A) where
  pub le_refl : (a : A.Exact) → Le A a a
  le_refl a = laws.irrefl a

  pub le_eq : (a b : A.Exact) → a ≡ b → Le A a b
  le_eq a b e = subst (λ (x : A.Exact). Le A a x) e (le_refl a)

  pub lt_le : (a b : A.Exact) → A.lt a b → Le A a b
  lt_le a b h g = laws.irrefl a (laws.trans a b a h g)

  -- what is not above is equal or below
  pub le_cases : (a b : A.Exact) → Le A a b → (a ≡ b) ⊎ A.lt a b
  le_cases a b h = elim (A.order a b) [ inl e ↦ inl e | inr o ↦ elim o [ inl l ↦ inr l | inr g ↦ absurd (h g) ] ]

  -- of two weights the second is not above the first, or the first is below it
  pub cases : (a b : A.Exact) → Le A b a ⊎ A.lt a b
  cases a b =
      elim (A.order a b) [ inl e ↦ inl (le_eq b a (sym e)) | inr o ↦ elim o [ inl l ↦ inr l | inr l ↦ inl (lt_le b a l) ] ]

  pub le_lt : (a b c : A.Exact) → Le A a b → A.lt b c → A.lt a c
  le_lt a b c h g =
      elim (le_cases a b h) [ inl e ↦ subst (λ (x : A.Exact). A.lt x c) (sym e) g | inr l ↦ laws.trans a b c l g ]

  pub lt_le_lt : (a b c : A.Exact) → A.lt a b → Le A b c → A.lt a c
  lt_le_lt a b c h g =
      elim (le_cases b c g) [ inl e ↦ subst (λ (x : A.Exact). A.lt a x) e h | inr l ↦ laws.trans a b c h l ]

  pub le_trans : (a b c : A.Exact) → Le A a b → Le A b c → Le A a c
  le_trans a b c h g k = h (le_lt b c a g k)

  pub le_antisym : (a b : A.Exact) → Le A a b → Le A b a → a ≡ b
  le_antisym a b h g = elim (le_cases a b h) [ inl e ↦ e | inr l ↦ absurd (g l) ]

  -- none on the right changes nothing either
  pub plus_none : (a : A.Exact) → A.plus a A.none ≡ a
  plus_none a = laws.comm a A.none ∙ laws.identity a

  -- the last two of three change places
  pub plus_swap : (a b c : A.Exact) → A.plus (A.plus a b) c ≡ A.plus (A.plus a c) b
  plus_swap a b c = laws.assoc a b c ∙ ap (A.plus a) (laws.comm b c) ∙ sym (laws.assoc a c b)

  -- the combination is monotone, on the left, on the right and on both sides
  pub le_plus : (a b c : A.Exact) → Le A a b → Le A (A.plus a c) (A.plus b c)
  le_plus a b c h =
      elim (le_cases a b h) [
        | inl e ↦ subst (λ (x : A.Exact). Le A (A.plus a c) (A.plus x c)) e (le_refl (A.plus a c))
        | inr l ↦ lt_le (A.plus a c) (A.plus b c) (laws.rises a b c l)
      ]

  pub le_plus_right : (a b c : A.Exact) → Le A b c → Le A (A.plus a b) (A.plus a c)
  le_plus_right a b c h =
      let P : A.Exact → Type 0 = λ x. Le A x (A.plus a c) in
      let Q : A.Exact → Type 0 = λ x. Le A (A.plus b a) x in
      subst P (laws.comm b a) (subst Q (laws.comm c a) (le_plus b c a h))

  pub le_plus_both : (a b c d : A.Exact) → Le A a b → Le A c d → Le A (A.plus a c) (A.plus b d)
  le_plus_both a b c d h g =
      le_trans (A.plus a c) (A.plus b c) (A.plus b d) (le_plus a b c h) (le_plus_right b c d g)

  pub lt_plus_right : (a b c : A.Exact) → A.lt b c → A.lt (A.plus a b) (A.plus a c)
  lt_plus_right a b c h =
      let P : A.Exact → Type 0 = λ x. A.lt x (A.plus a c) in
      let Q : A.Exact → Type 0 = λ x. A.lt (A.plus b a) x in
      subst P (laws.comm b a) (subst Q (laws.comm c a) (laws.rises b c a h))

  pub lt_le_plus : (a b c d : A.Exact) → A.lt a b → Le A c d → A.lt (A.plus a c) (A.plus b d)
  lt_le_plus a b c d h g = lt_le_lt (A.plus a c) (A.plus b c) (A.plus b d) (laws.rises a b c h) (le_plus_right b c d g)

  -- what is combined with one weight can be taken off again
  pub lt_cancel : (a b c : A.Exact) → A.lt (A.plus a c) (A.plus b c) → A.lt a b
  lt_cancel a b c h = elim (cases a b) [ inr l ↦ l | inl g ↦ absurd (le_plus b a c g h) ]

  pub plus_cancel : (a b c : A.Exact) → A.plus a c ≡ A.plus b c → a ≡ b
  plus_cancel a b c e =
      elim (A.order a b) [
        | inl s ↦ s
        | inr o ↦ elim o [
          | inl l ↦ absurd (le_eq (A.plus b c) (A.plus a c) (sym e) (laws.rises a b c l))
          | inr l ↦ absurd (le_eq (A.plus a c) (A.plus b c) e (laws.rises b a c l))
        ]
      ]

  -- a part is not above the whole
  pub le_whole : (a c : A.Exact) → Le A c (A.plus a c)
  le_whole a c =
      subst (λ (x : A.Exact). Le A x (A.plus a c)) (laws.identity c) (le_plus A.none a c (laws.lowest a))

  pub le_first : (a c : A.Exact) → Le A a (A.plus a c)
  le_first a c = subst (λ (x : A.Exact). Le A a x) (laws.comm c a) (le_whole c a)

  -- a part is below the whole where the rest is above none
  pub lt_whole : (a c : A.Exact) → A.lt A.none a → A.lt c (A.plus a c)
  lt_whole a c h =
      let P : A.Exact → Type 0 = λ x. A.lt x (A.plus a c) in subst P (laws.identity c) (laws.rises A.none a c h)

  -- a part of what is within the ceiling is within it
  pub part_within : (a c : A.Exact) → Le A (A.plus a c) A.ceiling → Le A c A.ceiling
  part_within a c h = laws.closed c (A.plus a c) h (le_whole a c)

  module _ {W : Type 0} (exact : W → A.Exact) where
    pub larger_first : (v w : W) → Le A (exact w) (exact v) → larger A exact v w ≡ v
    unfolding larger
    larger_first v w h =
        elim (A.order (exact v) (exact w)) as (λ d. elim d [ inl _ ↦ v | inr o ↦ elim o [ inl _ ↦ w | inr _ ↦ v ] ] ≡ v) [
          | inl e ↦ refl
          | inr o ↦ elim o as (λ d. elim d [ inl _ ↦ w | inr _ ↦ v ] ≡ v) [ inl l ↦ absurd (h l) | inr l ↦ refl ]
        ]

    pub larger_second : (v w : W) → A.lt (exact v) (exact w) → larger A exact v w ≡ w
    unfolding larger
    larger_second v w h =
        elim (A.order (exact v) (exact w)) as (λ d. elim d [ inl _ ↦ v | inr o ↦ elim o [ inl _ ↦ w | inr _ ↦ v ] ] ≡ w) [
          | inl e ↦ absurd (le_eq (exact w) (exact v) (sym e) h)
          | inr o ↦ elim o as (λ d. elim d [ inl _ ↦ w | inr _ ↦ v ] ≡ w) [ inl l ↦ refl | inr l ↦ absurd (lt_le (exact w) (exact v) l h) ]
        ]

    -- the larger, by a comparison
    pub larger_compared : (v w : W) (r : Ordering) → Compared A (exact v) (exact w) r → larger A exact v w ≡ cond (is_lt r) w v
    larger_compared v w Less h = larger_second v w h
    larger_compared v w Equal h = larger_first v w (le_eq (exact w) (exact v) (sym h))
    larger_compared v w Greater h = larger_first v w (lt_le (exact w) (exact v) h)

    -- the larger is not below either
    pub first_le_larger : (v w : W) → Le A (exact v) (exact (larger A exact v w))
    first_le_larger v w =
        let P : W → Type 0 = λ x. Le A (exact v) (exact x) in
        elim (cases (exact v) (exact w)) [
          | inl h ↦ subst P (sym (larger_first v w h)) (le_refl (exact v))
          | inr h ↦ subst P (sym (larger_second v w h)) (lt_le (exact v) (exact w) h)
        ]

    pub second_le_larger : (v w : W) → Le A (exact w) (exact (larger A exact v w))
    second_le_larger v w =
        let P : W → Type 0 = λ x. Le A (exact w) (exact x) in
        elim (cases (exact v) (exact w)) [
          | inl h ↦ subst P (sym (larger_first v w h)) h
          | inr h ↦ subst P (sym (larger_second v w h)) (le_refl (exact w))
        ]

    pub larger_assoc : (u v w : W) → larger A exact (larger A exact u v) w ≡ larger A exact u (larger A exact v w)
    larger_assoc u v w =
        elim (cases (exact u) (exact v)) [
          | inl vu ↦ elim (cases (exact v) (exact w)) [
            | inl wv ↦
                let a = larger_first u v vu in
                let b = larger_first v w wv in
                let c = larger_first u w (le_trans (exact w) (exact v) (exact u) wv vu) in
                cc
            | inr vw ↦
                let a = larger_first u v vu in
                let b = larger_second v w vw in
                cc
          ]
          | inr uv ↦ elim (cases (exact v) (exact w)) [
            | inl wv ↦
                let a = larger_second u v uv in
                let b = larger_first v w wv in
                cc
            | inr vw ↦
                let a = larger_second u v uv in
                let b = larger_second v w vw in
                let c = larger_second u w (laws.trans (exact u) (exact v) (exact w) uv vw) in
                cc
          ]
        ]

    -- what holds of both holds of the larger
    pub larger_keeps : (P : W → Type 0) (v w : W) → P v → P w → P (larger A exact v w)
    larger_keeps P v w p q =
        elim (cases (exact v) (exact w)) [ inl h ↦ subst P (sym (larger_first v w h)) p | inr h ↦ subst P (sym (larger_second v w h)) q ]

    -- a value that holds none is never the larger
    pub larger_least : (v w : W) → exact w ≡ A.none → larger A exact v w ≡ v
    larger_least v w e = larger_first v w (subst (λ (x : A.Exact). Le A x (exact v)) (sym e) (laws.lowest (exact v)))

    pub exact_larger_least : (v w : W) → exact v ≡ A.none → exact (larger A exact v w) ≡ exact w
    exact_larger_least v w e =
        elim (cases (exact v) (exact w)) [
          | inl h ↦
              let low : Le A (exact v) (exact w) = subst (λ (x : A.Exact). Le A x (exact w)) (sym e) (laws.lowest (exact w)) in
              ap exact (larger_first v w h) ∙ le_antisym (exact v) (exact w) low h
          | inr h ↦ ap exact (larger_second v w h)
        ]

-- the larger value holds the larger weight
pub exact_larger : {A : Algebra} (laws : Lawful A) {W : Type 0} (exact : W → A.Exact) (v w : W)
    → exact (larger A exact v w) ≡ larger_of A (exact v) (exact w)
exact_larger laws exact v w =
    elim (cases laws (exact v) (exact w)) [
      | inl h ↦ ap exact (larger_first laws exact v w h) ∙ sym (larger_first laws (λ e. e) (exact v) (exact w) h)
      | inr h ↦ ap exact (larger_second laws exact v w h) ∙ sym (larger_second laws (λ e. e) (exact v) (exact w) h)
    ]
