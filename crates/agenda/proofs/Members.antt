-- Which entries are held after a call, and which cells a call leaves. Assumes nothing.
use Rattle.std.proofs.Common.{◌≡◌, ℕ, zero, suc, ◌+◌, ◌-◌, ◌<◌, ◌≤◌, Bool, true, false, ◌⊎◌, List, [], ◌∷◌, length, get_or, drop, set, sym, refl, ap, ◌∙◌, subst, inl, inr, arith, length-set}
use Rattle.std.specs.List.Sorted.{IsPermutation}
use Rattle.std.specs.List.{ContainsAt as Has}
use Rattle.std.proofs.lemmas.List.Edits.{swap_is}
use Rattle.std.proofs.ByRecursion.{has_get_or, has_shuffled}
use Rattle.std.proofs.lemmas.List.{same_lists, get_or-drop, get_or-set_same, get_or-set_other, length-drop, length-map}
use Rattle.std.proofs.lemmas.List.Sorted.{IsPermutation-swap, IsPermutation-sym, IsPermutation-cons, IsPermutation-trans, length_permutation}
use Rattle.std.proofs.lemmas.Bool.{cases_eq, cases_lt}
use Rattle.agenda.specs.Orders.{First}
use Rattle.agenda.specs.Places.{Placed, Absent, Present, Improved}
use Rattle.agenda.specs.Cells.{held, slots_of, Untouched}
use Rattle.agenda.specs.Agendas.{Bounded, Pushed, Taken, Replaced, Improves}
use Rattle.agenda.specs.declared.cells.Cell.{Cell}
use Rattle.agenda.proofs.Moves.{apart}
use Rattle.agenda.proofs.Parts.{held_length}

-- numbers below n that differ for each i below m are not more than n
module _ (f : ℕ → ℕ) where
  -- whether one of them is n
  search_for : (n m : ℕ) → ((i : ℕ) × (i < m) × (f i ≡ n)) ⊎ ((i : ℕ) → i < m → f i ≡ n → ⊥)
  search_for n zero = inr (λ i l e. omega arith)
  search_for n (suc m) =
      elim (cases_eq (f m) n) [
        | inl e ↦ inl (m, omega arith, e)
        | inr ne ↦ elim (search_for n m) [
          | inl at ↦ inl (at.0, omega (arith, at.1), at.2)
          | inr none ↦ inr (λ i l e. elim (cases_eq i m) [ inl z ↦ ne (ap f (sym z) ∙ e) | inr nz ↦ none i (omega arith) e ])
        ]
      ]

  -- f with its value at j in the place of that at i
  moved_to : ℕ → ℕ → ℕ → ℕ
  moved_to i j k = elim (cases_eq k i) [ inl _ ↦ f j | inr _ ↦ f k ]

  moved_is : (i j k : ℕ) → ((k ≡ i) × (moved_to i j k ≡ f j)) ⊎ ((k ≡ i → ⊥) × (moved_to i j k ≡ f k))
  unfolding moved_to
  moved_is i j k =
      elim (cases_eq k i) as (λ t. ((k ≡ i) × (elim t [ inl _ ↦ f j | inr _ ↦ f k ] ≡ f j)) ⊎ ((k ≡ i → ⊥) × (elim t [ inl _ ↦ f j | inr _ ↦ f k ] ≡ f k))) [
        | inl e ↦ inl (e, refl)
        | inr ne ↦ inr (ne, refl)
      ]

pub fit : (n m : ℕ) (f : ℕ → ℕ) → ((i : ℕ) → i < m → f i < n) → ((i j : ℕ) → i < m → j < m → f i ≡ f j → i ≡ j) → m ≤ n
fit zero m f below one = elim (cases_lt 0 m) [ inl l ↦ omega (arith, below 0 l) | inr l ↦ l ]
fit (suc n) m f below one =
    elim (search_for f n m) [
      | inr none ↦
          let h : m ≤ n = fit n m f (λ i l. let a = below i l in let b : f i ≡ n → ⊥ = none i l in omega arith) one in
          omega arith
      | inl at ↦
          let i = at.0 in
          let g : ℕ → ℕ = moved_to f i (m - 1) in
          let not_n : (k : ℕ) → k < m → (k ≡ i → ⊥) → f k < n =
          λ k l ne. let a = below k l in let b : f k ≡ n → ⊥ = λ e. ne (one k i l at.1 (e ∙ sym at.2)) in omega arith in
          let h : m - 1 ≤ n = fit n (m - 1) g
          (λ k l. elim (moved_is f i (m - 1) k) [
            | inl p ↦ omega (arith, p.1, not_n (m - 1) (omega (arith, at.1)) (λ e. omega (arith, e, p.0)))
            | inr p ↦ omega (arith, p.1, not_n k (omega arith) p.0)
          ])
          (λ k j kl jl e. elim (moved_is f i (m - 1) k) [
            | inl p ↦ elim (moved_is f i (m - 1) j) [
              | inl q ↦ p.0 ∙ sym q.0
              | inr q ↦ absurd (omega (arith, jl, one (m - 1) j (omega arith) (omega arith) (sym p.1 ∙ e ∙ q.1)))
            ]
            | inr p ↦ elim (moved_is f i (m - 1) j) [
              | inl q ↦ absurd (omega (arith, kl, one k (m - 1) (omega arith) (omega arith) (sym p.1 ∙ e ∙ q.1)))
              | inr q ↦ one k j (omega arith) (omega arith) (sym p.1 ∙ e ∙ q.1)
            ]
          ]) in
          omega (arith, h, at.1)
    ]

module _ {X : Type 0} where
  pub has_cons : (y x : X) (xs : List X) → Has xs x → Has (y ∷ xs) x
  has_cons y x xs h = (suc h.0, omega (arith, h.1), h.2)

  pub has_head : (x : X) (xs : List X) → Has (x ∷ xs) x
  has_head x xs = (0, omega arith, λ d. refl)

  cons_at : (y x : X) (xs : List X) (k : ℕ) → k < length (y ∷ xs) → ((d : X) → get_or (y ∷ xs) k d ≡ x) → (x ≡ y) ⊎ Has xs x
  cons_at y x xs zero l at = inl (sym (at y))
  cons_at y x xs (suc k) l at = inr (k, omega arith, at)

  pub has_cons_cases : (y x : X) (xs : List X) → Has (y ∷ xs) x → (x ≡ y) ⊎ Has xs x
  has_cons_cases y x xs h = cons_at y x xs h.0 h.1 h.2

  pub pushed : (e : X) (xs ys : List X) → IsPermutation (e ∷ xs) ys → Pushed e xs ys
  pushed e xs ys s = record {
    adds = s;
    new = has_shuffled (e ∷ xs) ys e s (has_head e xs);
    kept = λ x h. has_shuffled (e ∷ xs) ys x s (has_cons e x xs h);
    only = λ x h. has_cons_cases e x xs (has_shuffled ys (e ∷ xs) x (IsPermutation-sym (e ∷ xs) ys s) h);
  }

module _ {X : Type 0} (ix : X → ℕ) where
  pub taken : (lt : X → X → Bool) (e : X) (xs ys : List X) → IsPermutation xs (e ∷ ys) → First lt e xs → Absent ix ys (ix e) → Taken lt ix e xs ys
  taken lt e xs ys s first free =
      let back = IsPermutation-sym xs (e ∷ ys) s in
      record {
        takes = s;
        member = has_shuffled (e ∷ ys) xs e back (has_head e ys);
        first = first;
        kept = λ x h. has_cons_cases e x ys (has_shuffled xs (e ∷ ys) x s h);
        only = λ x h. (has_shuffled (e ∷ ys) xs x back (has_cons e x ys h), λ same. free h.0 e h.1 (ap ix (h.2 e) ∙ same));
      }

  -- one index, one entry
  pub one_entry : (xs : List X) (slots : List ℕ) → Placed ix xs slots → (x y : X) → Has xs x → Has xs y → ix x ≡ ix y → x ≡ y
  one_entry xs slots placed x y h g e =
      let z : h.0 ≡ g.0 = apart (λ i. ix (get_or xs i x)) slots (length xs) (placed x) h.0 g.0 h.1 g.1 (ap ix (h.2 x) ∙ e ∙ ap ix (sym (g.2 x))) in
      sym (h.2 x) ∙ ap (λ k. get_or xs k x) z ∙ g.2 x

  put_first : (xs : List X) (p : ℕ) (e : X) → p < length xs → IsPermutation (e ∷ xs) (get_or xs p e ∷ set xs p e)
  put_first xs p e l =
      IsPermutation-swap (e ∷ xs) (get_or xs p e ∷ set xs p e) 0 (suc p) (omega arith) (omega arith) (swap_is (e ∷ xs) 0 (suc p) e (omega arith) (omega arith))

  pub replaced : (lt : X → X → Bool) (e : X) (xs ys : List X) (slots : List ℕ) (p : ℕ) → Placed ix xs slots → Present ix xs (ix e) p → lt e (get_or xs p e) ≡ true → IsPermutation (set xs p e) ys → Replaced lt ix e xs ys
  replaced lt e xs ys slots p placed at earlier s =
      let back = IsPermutation-sym (set xs p e) ys s in
      let to = λ (x : X). has_shuffled (set xs p e) ys x s in
      let wide = length-set xs p e in
      record {
        old = get_or xs p e;
        member = has_get_or xs p e at.0;
        same = at.1 e;
        before = earlier;
        swaps = IsPermutation-trans (e ∷ xs) (get_or xs p e ∷ set xs p e) (get_or xs p e ∷ ys) (put_first xs p e at.0) (IsPermutation-cons (get_or xs p e) (set xs p e) ys s);
        new = to e (p, omega (arith, at.0), λ d. get_or-set_same xs p e d at.0);
        kept = λ x h other. to x (
          h.0,
          omega (arith, h.1),
          λ d.
              get_or-set_other xs p h.0 e d (λ z. other (ap ix (sym (h.2 e)) ∙ ap (λ k. ix (get_or xs k e)) z ∙ at.1 e)) ∙ h.2 d,
        );
        only = λ x h.
            let m = has_shuffled ys (set xs p e) x back h in
            elim (cases_eq m.0 p) [
              | inl z ↦ inl (sym (m.2 e) ∙ ap (λ k. get_or (set xs p e) k e) z ∙ get_or-set_same xs p e e at.0)
              | inr ne ↦
                  let held : (d : X) → get_or xs m.0 d ≡ x = λ d. sym (get_or-set_other xs p m.0 e d ne) ∙ m.2 d in
                  let l : m.0 < length xs = omega (arith, m.1) in
                  inr ((m.0, l, held), λ same. ne (apart (λ i. ix (get_or xs i e)) slots (length xs) (placed e) m.0 p l at.0 (ap ix (held e) ∙ same ∙ sym (at.1 e))))
            ];
      }

  pub improves : (lt : X → X → Bool) (e : X) (xs ys : List X) (slots : List ℕ) (r : Bool) → Placed ix xs slots → Improved ix lt xs e ys r → Improves lt ix e xs ys r
  improves lt e xs ys slots true placed h = replaced lt e xs ys slots h.0 placed h.1 (h.2 e) h.3
  improves lt e xs ys slots false placed h =
      (h.0, λ x m same. subst (λ y. lt e y ≡ false) (m.2 x) (h.1 m.0 x m.1 (ap ix (m.2 x) ∙ same)))

  -- entries with indices of their own, below n, are not more than n
  pub fewer : (xs : List X) (slots : List ℕ) (n : ℕ) → Placed ix xs slots → Bounded ix xs n → length xs ≤ n
  fewer [] slots n placed below = omega arith
  fewer (x ∷ xs) slots n placed below =
      fit n (length (x ∷ xs)) (λ i. ix (get_or (x ∷ xs) i x)) (λ i l. below (get_or (x ∷ xs) i x) (has_get_or (x ∷ xs) i x l))
      (apart (λ i. ix (get_or (x ∷ xs) i x)) slots (length (x ∷ xs)) (placed x))

  -- so there is room for an index that none has
  pub space : (e : X) (xs : List X) (slots : List ℕ) → Placed ix xs slots → ix e < length slots → Absent ix xs (ix e) → length xs < length slots
  space e xs slots placed within none =
      let f : ℕ → ℕ = λ i. ix (get_or (e ∷ xs) i e) in
      let below : (i : ℕ) → i < length (e ∷ xs) → f i < length slots = λ i l. below_at i l in
      let h = fit (length slots) (length (e ∷ xs)) f below (λ i j l m q. one_at i j l m q) in
      omega arith
    where
      below_at : (i : ℕ) → i < length (e ∷ xs) → ix (get_or (e ∷ xs) i e) < length slots
      below_at zero l = within
      below_at (suc i) l = (placed e i (omega arith)).0

      one_at : (i j : ℕ) → i < length (e ∷ xs) → j < length (e ∷ xs) → ix (get_or (e ∷ xs) i e) ≡ ix (get_or (e ∷ xs) j e) → i ≡ j
      one_at zero zero l m q = refl
      one_at zero (suc j) l m q = absurd (none j e (omega arith) (sym q))
      one_at (suc i) zero l m q = absurd (none i e (omega arith) q)
      one_at (suc i) (suc j) l m q = ap suc (apart (λ k. ix (get_or xs k e)) slots (length xs) (placed e) i j (omega arith) (omega arith) q)

  -- of cells too, of which the first n hold entries
  pub room_for : (e : X) (cells : List (Cell X)) (n : ℕ) → n ≤ length cells → Placed ix (held cells n) (slots_of cells) → ix e < length cells → Absent ix (held cells n) (ix e) → n < length cells
  room_for e cells n in' placed within none =
      let deep = length-map cells (λ x. x.slot) in
      let front = held_length cells n in' in
      let h = space e (held cells n) (slots_of cells) placed (omega arith) none in
      omega arith

  -- cells at and beyond n, where n bounds the indices
  pub beyond : (xs : List X) (cells after : List (Cell X)) (n : ℕ) → length after ≡ length cells → length xs ≤ n → Bounded ix xs n → Untouched ix xs cells after → drop n after ≡ drop n cells
  beyond xs cells after n long few below kept =
      same_lists (drop n after) (drop n cells) (length-drop n after ∙ ap (λ k. k - n) long ∙ sym (length-drop n cells))
      (λ k d l. get_or-drop n after k d
      ∙ kept (n + k) d (omega arith) (λ i x m e. let h = below (get_or xs i x) (has_get_or xs i x m) in omega arith)
      ∙ sym (get_or-drop n cells k d))

  -- the same, where those entries are held
  pub beyond_held : (cells after : List (Cell X)) (m n : ℕ) → length after ≡ length cells → Placed ix (held cells m) (slots_of cells) → Untouched ix (held cells m) cells after → Bounded ix (held cells m) n → drop n after ≡ drop n cells
  beyond_held cells after m n long placed kept below = beyond (held cells m) cells after n long (fewer (held cells m) (slots_of cells) n placed below) below kept

  -- the same, where e came in
  pub beyond_pushed : (cells after : List (Cell X)) (m k n : ℕ) (e : X) → length after ≡ length cells → IsPermutation (e ∷ held cells m) (held after k) → Placed ix (held after k) (slots_of after) → Untouched ix (e ∷ held cells m) cells after → Bounded ix (held after k) n
      → drop n after ≡ drop n cells
  beyond_pushed cells after m k n e long adds placed kept below =
      let more : length (held after k) ≡ length (e ∷ held cells m) = length_permutation (e ∷ held cells m) (held after k) adds in
      let few : length (held after k) ≤ n = fewer (held after k) (slots_of after) n placed below in
      beyond (e ∷ held cells m) cells after n long (omega arith) (λ x h. below x (has_shuffled (e ∷ held cells m) (held after k) x adds h)) kept
