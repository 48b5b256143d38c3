-- What puts leave of the first n cells, where each entry is found by its index. Assumes nothing.
use Rattle.std.proofs.Common.{◌≡◌, ℕ, ◌+◌, ◌-◌, ◌<◌, ◌≤◌, Bool, false, List, ◌∷◌, length, get_or, take, set, sym, refl, ap, ◌∙◌, subst, arith, length-set}
use Rattle.std.specs.List.Sorted.{IsPermutation}
use Rattle.std.proofs.lemmas.List.{get_or-take, length-map, set-get_or}
use Rattle.agenda.specs.Orders.{Ordered, Heap, Up, Down, First}
use Rattle.agenda.specs.Places.{Swaps, Placed, PlacedAt, Absent, Present}
use Rattle.agenda.specs.Cells.{held, entries_of, slots_of, Put, Untouched}
use Rattle.agenda.specs.declared.cells.Cell.{Cell}
use Rattle.agenda.proofs.Ends as ends
use Rattle.agenda.proofs.Ends.{set_taken}
use Rattle.agenda.proofs.Moves as moves
use Rattle.agenda.proofs.Parts.{held_length, not_held, exchange_shuffles, exchange_swaps, absent_set}
use Rattle.agenda.proofs.Members.{room_for}

pub record Exchanged {X : Type 0} (ix : X → ℕ) (n i j : ℕ) (cells after : List (Cell X)) : Type 0 where
  pub shuffled : IsPermutation (held cells n) (held after n)
  pub swaps : Swaps (held cells n) (held after n) i j
  pub placed : Placed ix (held after n) (slots_of after)
  pub untouched : Untouched ix (held cells n) cells after

module _ {X : Type 0} (ix : X → ℕ) (cells : List (Cell X)) (n : ℕ) (within : n ≤ length cells) (h : Placed ix (held cells n) (slots_of cells)) where
  wide : length (entries_of cells) ≡ length cells
  wide = length-map cells (λ x. x.entry)

  deep : length (slots_of cells) ≡ length cells
  deep = length-map cells (λ x. x.slot)

  front : length (held cells n) ≡ n
  front = held_length cells n within

  -- the index of an entry that is held
  pub index_within : (i : ℕ) (a : X) → i < n → ((d : X) → a ≡ get_or (held cells n) i d) → ix a < length cells
  index_within i a p at =
      let u : ix (get_or (held cells n) i a) ≡ ix a = ap ix (sym (at a)) in
      omega (arith, (h a i (omega (arith, front))).0, deep)

  -- b is put at i, where a was, and a at j, where b was
  pub exchanged : (mid after : List (Cell X)) (i j : ℕ) (a b : X) → i < n → j < n → ((d : X) → a ≡ get_or (held cells n) i d) → ((d : X) → b ≡ get_or (held cells n) j d)
      → Put ix b i cells mid → Put ix a j mid after → Exchanged ix n i j cells after
  exchanged mid after i j a b p q at_i at_j one two =
      let zs = entries_of after in
      let e : zs ≡ set (set (entries_of cells) i b) j a = two.entries ∙ ap (λ l. set l j a) one.entries in
      let s : slots_of after ≡ set (set (slots_of cells) (ix b) i) (ix a) j = two.slots ∙ ap (λ l. set l (ix a) j) one.slots in
      let in' : n ≤ length (entries_of cells) = omega (arith, wide) in
      let long : length (entries_of after) ≡ length (entries_of cells) = ap length e ∙ length-set (set (entries_of cells) i b) j a ∙ length-set (entries_of cells) i b in
      let same : length after ≡ length cells = omega (arith, long, wide, length-map after (λ x. x.entry)) in
      let swaps : Swaps (held cells n) (held after n) i j = subst (λ l. Swaps (held cells n) (take n l) i j) (sym e) (exchange_swaps (entries_of cells) i j n a b p q in' at_i at_j) in
      record {
        shuffled = subst (λ l. IsPermutation (held cells n) (take n l)) (sym e) (exchange_shuffles (entries_of cells) i j n a b p q in' at_i at_j);
        swaps = swaps;
        placed = λ d.
            let w = swaps d in
            let y : ℕ → ℕ = λ k. ix (get_or (held after n) k d) in
            let yi : y i ≡ ix b = ap ix (w.0 ∙ sym (at_j d)) in
            let yj : y j ≡ ix a = ap ix (w.1 ∙ sym (at_i d)) in
            let put : slots_of after ≡ set (set (slots_of cells) (y i) i) (y j) j = s ∙ sym (λ k. set (set (slots_of cells) (yi k) i) (yj k) j) in
            let back = held_length after n (omega (arith, same)) in
            subst (λ l. PlacedAt y l (length (held after n))) (sym put)
            (moves.placed_swap (λ k. ix (get_or (held cells n) k d)) y (slots_of cells) i j (length (held cells n)) (length (held after n)) (omega (arith, front)) (omega (arith, front)) (omega (arith, front, back)) (ap ix w.0, ap ix w.1, λ k u v. ap ix (w.2 k u v)) (h d));
        untouched = λ k d past none.
            two.elsewhere k d (λ z. omega (arith, z, front)) (not_held ix (held cells n) k none i a (omega (arith, front)) at_i)
            ∙ one.elsewhere k d (λ z. omega (arith, z, front)) (not_held ix (held cells n) k none j b (omega (arith, front)) at_j);
      }

  -- e is put at p, where an entry with its index was
  module _ (after : List (Cell X)) (p : ℕ) (e : X) (at : Present ix (held cells n) (ix e) p) (put : Put ix e p cells after) where
    pub lower_is : held after n ≡ set (held cells n) p e
    lower_is = ap (take n) put.entries ∙ set_taken (entries_of cells) n p e

    pub lower_placed : Placed ix (held after n) (slots_of after)
    lower_placed =
        let here : get_or (slots_of cells) (ix e) 0 ≡ p = ap (λ k. get_or (slots_of cells) k 0) (sym (at.1 e)) ∙ (h e p at.0).1 in
        let s : slots_of after ≡ slots_of cells = put.slots ∙ ap (set (slots_of cells) (ix e)) (sym here) ∙ set-get_or (slots_of cells) (ix e) 0 in
        subst (λ l. Placed ix l (slots_of after)) (sym lower_is) (subst (λ l. Placed ix (set (held cells n) p e) l) (sym s) (moves.lower_placed ix (held cells n) (slots_of cells) p e at h))

    pub lower_up : (lt : X → X → Bool) → Ordered lt → ((d : X) → lt (get_or (held cells n) p d) e ≡ false) → Heap lt (held cells n) → Up lt (held after n) p
    lower_up lt o t heap = subst (λ l. Up lt l p) (sym lower_is) (moves.lower_up ix (held cells n) (slots_of cells) lt o p e at.0 t heap)

    pub lower_absent : (k : ℕ) → Absent ix (held cells n) k → Absent ix (held after n) k
    lower_absent k none = subst (λ l. Absent ix l k) (sym lower_is) (absent_set ix (held cells n) k p e at none)

    pub lower_untouched : Untouched ix (held cells n) cells after
    lower_untouched k d past none = put.elsewhere k d (λ z. omega (arith, z, at.0)) (λ z. none p e at.0 (at.1 e ∙ sym z))

  -- e is put after the first n, none of which has its index
  module _ (after : List (Cell X)) (e : X) (room : ix e < length cells) (none : Absent ix (held cells n) (ix e)) (put : Put ix e n cells after) where
    space : n < length (entries_of cells)
    space = omega (arith, room_for ix e cells n within h room none, wide)

    pub push_shuffles : (lt : X → X → Bool) → IsPermutation (e ∷ held cells n) (held after (n + 1))
    push_shuffles lt = subst (λ l. IsPermutation (e ∷ held cells n) (take (n + 1) l)) (sym put.entries) (ends.push_start lt (entries_of cells) n (n + 1) e space refl)

    pub push_up : (lt : X → X → Bool) → Heap lt (held cells n) → Up lt (held after (n + 1)) n
    push_up lt heap = subst (λ l. Up lt (take (n + 1) l) n) (sym put.entries) (ends.push_up lt (entries_of cells) n (n + 1) e space refl heap)

    pub push_placed : Placed ix (held after (n + 1)) (slots_of after)
    push_placed = subst (λ l. Placed ix (take (n + 1) l) (slots_of after)) (sym put.entries) (subst (λ l. Placed ix (take (n + 1) (set (entries_of cells) n e)) l) (sym put.slots)
        (moves.push_placed ix (entries_of cells) (slots_of cells) n (n + 1) (ix e) e space refl refl (omega (arith, deep)) h none))

    pub push_untouched : Untouched ix (e ∷ held cells n) cells after
    push_untouched k d past free = put.elsewhere k d (λ z. omega (arith, z, front)) (λ z. free 0 e (omega arith) (sym z))

  -- v, the last of the first n, is put in the place of the top, x
  module _ (after : List (Cell X)) (x v : X) (some : 0 < n) (first : (d : X) → x ≡ get_or (held cells n) 0 d) (last : (d : X) → v ≡ get_or (held cells n) (n - 1) d) (put : Put ix v 0 cells after) where
    in' : n ≤ length (entries_of cells)
    in' = omega (arith, wide)

    x_is : x ≡ get_or (entries_of cells) 0 x
    x_is = first x ∙ get_or-take n (entries_of cells) 0 x some

    v_is : v ≡ get_or (entries_of cells) (n - 1) v
    v_is = last v ∙ get_or-take n (entries_of cells) (n - 1) v (omega arith)

    v_within : ix v < length (slots_of cells)
    v_within = omega (arith, index_within (n - 1) v (omega arith) last, deep)

    pub pop_shuffles : (lt : X → X → Bool) → IsPermutation (held cells n) (x ∷ held after (n - 1))
    pop_shuffles lt = subst (λ l. IsPermutation (held cells n) (x ∷ take (n - 1) l)) (sym put.entries) (ends.pop_start lt (entries_of cells) n (n - 1) x v some in' refl x_is v_is)

    pub pop_first : (lt : X → X → Bool) → Ordered lt → Heap lt (held cells n) → First lt x (held cells n)
    pop_first lt = ends.pop_first lt (entries_of cells) n (n - 1) x v some in' refl x_is v_is

    pub pop_down : (lt : X → X → Bool) → Heap lt (held cells n) → Down lt (held after (n - 1)) 0
    pop_down lt heap = subst (λ l. Down lt (take (n - 1) l) 0) (sym put.entries) (ends.pop_down lt (entries_of cells) n (n - 1) x v some in' refl x_is v_is heap)

    pub pop_placed : Placed ix (held after (n - 1)) (slots_of after)
    pop_placed = subst (λ l. Placed ix (take (n - 1) l) (slots_of after)) (sym put.entries) (subst (λ l. Placed ix (take (n - 1) (set (entries_of cells) 0 v)) l) (sym put.slots)
        (moves.pop_placed ix (entries_of cells) (slots_of cells) n (n - 1) (ix v) v some in' refl v_is refl h))

    pub pop_absent : Absent ix (held after (n - 1)) (ix x)
    pop_absent = subst (λ l. Absent ix (take (n - 1) l) (ix x)) (sym put.entries) (moves.pop_absent ix (entries_of cells) (slots_of cells) n (n - 1) (ix v) v some in' refl v_is refl h x x_is)

    pub pop_untouched : Untouched ix (held cells n) cells after
    pop_untouched k d past none = put.elsewhere k d (λ z. omega (arith, z, front)) (not_held ix (held cells n) k none (n - 1) v (omega (arith, front)) last)
