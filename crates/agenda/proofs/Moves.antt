-- What keeps each entry found by its index. Assumes nothing.
use Rattle.std.proofs.Common.{◌≡◌, ℕ, ◌+◌, ◌-◌, ◌<◌, ◌≤◌, Bool, false, List, length, get_or, take, set, sym, refl, ap, ◌∙◌, subst, ⊎_elim, arith, length-set}
use Rattle.std.proofs.lemmas.List.{get_or-set_same, get_or-set_other, get_or-take, get_or_default, length-take-le}
use Rattle.std.proofs.lemmas.Bool.{cases_eq}
use Rattle.agenda.specs.Orders.{Ordered, HeapAt, UpAt, Heap, Up}
use Rattle.agenda.proofs.Sifts as sifts
use Rattle.agenda.specs.Places.{PlacedAt, SwapAt, Placed, Absent, Present}

split : {G : Type 0} (a b : ℕ) → (a ≡ b → G) → ((a ≡ b → ⊥) → G) → G
split a b same other = ⊎_elim same other (cases_eq a b)

pub apart : (x : ℕ → ℕ) (s : List ℕ) (n : ℕ) → PlacedAt x s n → (i j : ℕ) → i < n → j < n → x i ≡ x j → i ≡ j
apart x s n h i j p q e = sym (h i p).1 ∙ ap (λ k. get_or s k 0) e ∙ (h j q).1

-- after a note of the one at i, of those for which P holds
noted : (y : ℕ → ℕ) (s : List ℕ) (i m : ℕ) (P : ℕ → Type 0) → y i < length s
    → ((k : ℕ) → k < m → P k → (k ≡ i → ⊥) → y k ≡ y i → ⊥)
    → ((k : ℕ) → k < m → P k → (k ≡ i → ⊥) → (y k < length s) × (get_or s (y k) 0 ≡ k))
    → (k : ℕ) → k < m → P k → (y k < length (set s (y i) i)) × (get_or (set s (y i) i) (y k) 0 ≡ k)
noted y s i m P within alone h k l p = split k i
    (λ e. let u : y k ≡ y i = ap y e in (omega (arith, length-set s (y i) i), ap (λ j. get_or (set s (y i) i) j 0) u ∙ get_or-set_same s (y i) i 0 within ∙ sym e))
    (λ ne. let was = h k l p ne in (omega (arith, length-set s (y i) i), get_or-set_other s (y i) (y k) i 0 (alone k l p ne) ∙ was.1))

-- one note makes good what was so but for i
pub placed_note : (y : ℕ → ℕ) (s : List ℕ) (i m : ℕ) → y i < length s
    → ((k : ℕ) → k < m → (k ≡ i → ⊥) → y k ≡ y i → ⊥)
    → ((k : ℕ) → k < m → (k ≡ i → ⊥) → (y k < length s) × (get_or s (y k) 0 ≡ k))
    → PlacedAt y (set s (y i) i) m
placed_note y s i m within alone h k l = noted y s i m (λ _. Unit {0}) within (λ k l _. alone k l) (λ k l _. h k l) k l tt

module _ (x y : ℕ → ℕ) (s : List ℕ) (i j n m : ℕ) (p : i < n) (q : j < n) (long : m ≡ n) (w : SwapAt x y i j) (h : PlacedAt x s n) where
  pub first_within : y i < length s
  first_within = let u = w.0 in omega (arith, (h j q).0)

  pub second_within : y j < length s
  second_within = let u = w.1 in omega (arith, (h i p).0)

  pub placed_swap : PlacedAt y (set (set s (y i) i) (y j) j) m
  placed_swap = placed_note y (set s (y i) i) j m (omega (arith, second_within, length-set s (y i) i))
      (λ k l nj e. split k i
      (λ a. let z : i ≡ j = apart x s n h i j p q (sym w.1 ∙ sym e ∙ ap y a ∙ w.0) in omega arith)
      (λ ni. let z : k ≡ i = apart x s n h k i (omega arith) p (sym (w.2 k ni nj) ∙ e ∙ w.1) in ni z))
      (noted y s i m (λ k. k ≡ j → ⊥) first_within
      (λ k l nj ni e. nj (apart x s n h k j (omega arith) q (sym (w.2 k ni nj) ∙ e ∙ w.0)))
      (λ k l nj ni. let u = w.2 k ni nj in let was = h k (omega arith) in (omega arith, ap (λ z. get_or s z 0) u ∙ was.1)))

pub placed_same : (x y : ℕ → ℕ) (s : List ℕ) (n m : ℕ) → m ≤ n → ((i : ℕ) → i < m → y i ≡ x i) → PlacedAt x s n → PlacedAt y s m
placed_same x y s n m le same h i l = let u = same i l in let was = h i (omega arith) in (omega arith, ap (λ k. get_or s k 0) u ∙ was.1)

-- a heap in which the value at j has become one that does not come after it
pub lowered : {X : Type 0} (lt : X → X → Bool) → Ordered lt → (f g : ℕ → X) (j n m : ℕ) → m ≡ n → ((k : ℕ) → (k ≡ j → ⊥) → g k ≡ f k) → lt (f j) (g j) ≡ false → HeapAt lt f n → UpAt lt g j m
lowered lt o f g j n m long same t h = (
  λ p k c l nk. split p j
      (λ e. sifts.by lt _ _ _ _ (same k nk) (ap g e) (o.chain _ _ _ (h j k (omega arith, omega arith) (omega arith)) t))
      (λ np. sifts.by lt _ _ _ _ (same k nk) (same p np) (h p k c (omega arith))),
  λ p k a b l. sifts.by lt _ _ _ _ (same k (omega arith)) (same p (omega arith)) (o.chain _ _ _ (h j k b (omega arith)) (h p j a (omega arith))),
)

module _ {X : Type 0} (ix : X → ℕ) (xs : List X) (slots : List ℕ) where
  -- `lower`
  pub lower_up : (lt : X → X → Bool) → Ordered lt → (p : ℕ) (e : X) → p < length xs → ((d : X) → lt (get_or xs p d) e ≡ false) → Heap lt xs → Up lt (set xs p e) p
  lower_up lt o p e l t h d = lowered lt o (λ i. get_or xs i d) (λ i. get_or (set xs p e) i d) p (length xs) (length (set xs p e)) (length-set xs p e)
      (λ k ne. get_or-set_other xs p k e d ne) (sifts.by lt _ _ _ _ refl (get_or-set_same xs p e d l) (t d)) (h d)

  pub lower_placed : (p : ℕ) (e : X) → Present ix xs (ix e) p → Placed ix xs slots → Placed ix (set xs p e) slots
  lower_placed p e at h d = placed_same (λ i. ix (get_or xs i d)) (λ i. ix (get_or (set xs p e) i d)) slots (length xs) (length (set xs p e)) (omega (arith, length-set xs p e))
      (λ i l. split i p
      (λ a. ap (λ k. ix (get_or (set xs p e) k d)) a ∙ ap ix (get_or-set_same xs p e d at.0) ∙ sym (at.1 d) ∙ sym (ap (λ k. ix (get_or xs k d)) a))
      (λ ne. ap ix (get_or-set_other xs p i e d ne)))
      (h d)

  -- `push`
  pub push_placed : (n m k : ℕ) (e : X) → n < length xs → m ≡ n + 1 → k ≡ ix e → k < length slots → Placed ix (take n xs) slots → Absent ix (take n xs) (ix e) → Placed ix (take m (set xs n e)) (set slots k n)
  push_placed n m k e room is named within h none d =
      let y : ℕ → ℕ = λ i. ix (get_or (take m (set xs n e)) i d) in
      let front = length-take-le n xs (omega arith) in
      let last : y n ≡ ix e = ap ix (get_or-take m (set xs n e) n d (omega arith) ∙ get_or-set_same xs n e d room) in
      let here : y n ≡ k = last ∙ sym named in
      let long = length-take-le m (set xs n e) (omega (arith, length-set xs n e)) in
      let below : (i : ℕ) → i < n → y i ≡ ix (get_or (take n xs) i d) = λ i l. ap ix (get_or-take m (set xs n e) i d (omega arith) ∙ get_or-set_other xs n i e d (omega arith) ∙ sym (get_or-take n xs i d l)) in
      subst (λ v. PlacedAt y (set slots v n) (length (take m (set xs n e)))) here (placed_note y slots n (length (take m (set xs n e))) (omega arith)
      (λ i l ne q. none i d (omega arith) (sym (below i (omega arith)) ∙ q ∙ last))
      (λ i l ne. let u = below i (omega arith) in let was = h d i (omega arith) in (omega arith, ap (λ z. get_or slots z 0) u ∙ was.1)))

  -- `pop`
  module _ (n m k : ℕ) (v : X) (some : 0 < n) (in' : n ≤ length xs) (is : m ≡ n - 1) (last : v ≡ get_or xs (n - 1) v) (named : k ≡ ix v) (h : Placed ix (take n xs) slots) where
    front : length (take n xs) ≡ n
    front = length-take-le n xs in'

    last_is : (d : X) → get_or (take n xs) (n - 1) d ≡ v
    last_is d = get_or-take n xs (n - 1) d (omega arith) ∙ get_or_default xs (n - 1) d v (omega arith) ∙ sym last

    pub pop_within : k < length slots
    pop_within = let u : ix (get_or (take n xs) (n - 1) v) ≡ ix v = ap ix (last_is v) in omega (arith, (h v (n - 1) (omega (arith, front))).0)

    pub pop_placed : Placed ix (take m (set xs 0 v)) (set slots k 0)
    pop_placed d i l =
        let y : ℕ → ℕ = λ i. ix (get_or (take m (set xs 0 v)) i d) in
        let long = length-take-le m (set xs 0 v) (omega (arith, length-set xs 0 v)) in
        let top : y 0 ≡ ix v = ap ix (get_or-take m (set xs 0 v) 0 d (omega arith) ∙ get_or-set_same xs 0 v d (omega arith)) in
        let here : y 0 ≡ k = top ∙ sym named in
        let other : (j : ℕ) → j < m → (j ≡ 0 → ⊥) → y j ≡ ix (get_or (take n xs) j d) = λ j a ne. ap ix (get_or-take m (set xs 0 v) j d a ∙ get_or-set_other xs 0 j v d ne ∙ sym (get_or-take n xs j d (omega arith))) in
        subst (λ w. PlacedAt y (set slots w 0) (length (take m (set xs 0 v)))) here (placed_note y slots 0 (length (take m (set xs 0 v))) (omega (arith, pop_within))
        (λ j a ne q. let z : j ≡ n - 1 = apart (λ i. ix (get_or (take n xs) i d)) slots (length (take n xs)) (h d) j (n - 1) (omega (arith, front)) (omega (arith, front)) (sym (other j (omega arith) ne) ∙ q ∙ top ∙ sym (ap ix (last_is d))) in omega arith)
        (λ j a ne. let u = other j (omega arith) ne in let was = h d j (omega (arith, front)) in (omega arith, ap (λ z. get_or slots z 0) u ∙ was.1))) i l

    -- the entry that goes leaves its index free
    pub pop_absent : (x : X) → x ≡ get_or xs 0 x → Absent ix (take m (set xs 0 v)) (ix x)
    pop_absent x first i d l e =
        let long = length-take-le m (set xs 0 v) (omega (arith, length-set xs 0 v)) in
        let f : ℕ → ℕ = λ j. ix (get_or (take n xs) j d) in
        let top : f 0 ≡ ix x = ap ix (get_or-take n xs 0 d some ∙ get_or_default xs 0 d x (omega arith) ∙ sym first) in
        let same : (j : ℕ) → j < n → f j ≡ ix x → j ≡ 0 = λ j a q. apart f slots (length (take n xs)) (h d) j 0 (omega (arith, front)) (omega (arith, front)) (q ∙ sym top) in
        let here = get_or-take m (set xs 0 v) i d (omega arith) in
        split i 0
        (λ z.
        let q : f (n - 1) ≡ ix x = ap ix (last_is d ∙ sym (get_or-set_same xs 0 v d (omega arith)) ∙ ap (λ j. get_or (set xs 0 v) j d) (sym z) ∙ sym here) ∙ e in
        omega (arith, same (n - 1) (omega arith) q))
        (λ ne.
        let q : f i ≡ ix x = ap ix (get_or-take n xs i d (omega arith) ∙ sym (get_or-set_other xs 0 i v d ne) ∙ sym here) ∙ e in
        ne (same i (omega arith) q))
