-- What the steps of a search do to what it has found. Assumes nothing.
use Rattle.std.proofs.Common.{◌≡◌, ℕ, zero, suc, ◌+◌, ◌<◌, Bool, false, ◌⊎◌, List, [], ◌∷◌, ◌++◌, length, get_or, set, replicate, Some, None, Option, Ordering, sym, refl, ap, ◌∙◌, subst, inl, inr, arith, get_or-set_other, get_or-set_same}
use native.Mathlib.Decide.{ℕ_discrete}
use Rattle.std.specs.List.{ContainsAt as Has}
use Rattle.weight.specs.Algebra.{Algebra, Lawful, Le, Compared, Within}
use Rattle.weight.proofs.Orders.{le_first, le_trans, lt_le, le_lt, lt_le_lt, cases, plus_none}
use Rattle.std.proofs.lemmas.List.{get_or-replicate, get_or_past, length-map, length-replicate, append-nil, append_assoc}
use Rattle.std.proofs.lemmas.Bool.{cases_lt}
use Rattle.std.specs.declared.cmp.Ord as Ord
use Rattle.std.specs.declared.cmp.PartialEq as PartialEq
use Rattle.std.specs.declared.cmp.PartialOrd as PartialOrd
use Rattle.agenda.specs.declared.entry.Slotted as Slotted
use Rattle.agenda.specs.declared.agenda.Agenda.{Agenda}
use Rattle.agenda.specs.Orders.{before}
use Rattle.agenda.specs.Agendas.{Taken, Offered, room, entries, cells_of}
use Rattle.grammar.specs.Formed.{Each}
use Rattle.deduction.specs.Deduction.{System, Der, Ders, node, none, more, Derives, DerivesAll, cost, cost_all, sum}
use Rattle.estimate.specs.declared.entry.Entry.{Entry}
use Rattle.estimate.specs.declared.rules.Rule.{Rule}
use Rattle.estimate.specs.Entries.{cheaper, place}
use Rattle.estimate.specs.Rules.{premises_of, Inside, Numbered, system}
use Rattle.estimate.specs.Searches.{at, Open, worth, AllSettled, Weighed, Reached, Found, Searching, Closed, Solved, Considered, opens}
use Rattle.estimate.specs.Cheaper.{by_cost, by_cost_cheaper, not_out}
use Rattle.estimate.specs.Frontier.{frontier}

-- ---- combining
module _ {A : Algebra} (laws : Lawful A) where
  pub sum_push : (f : ℕ → A.Exact) (ps : List ℕ) (x : ℕ) → sum A f (ps ++ x ∷ []) ≡ A.plus (sum A f ps) (f x)
  sum_push f [] x = plus_none laws (f x) ∙ sym (laws.identity (f x))
  sum_push f (p ∷ ps) x = ap (A.plus (f p)) (sum_push f ps x) ∙ sym (laws.assoc (f p) (sum A f ps) (f x))

each_front : {X : Type 0} (P : X → Type 0) (xs : List X) (x : X) → Each P (xs ++ x ∷ []) → Each P xs × P x
each_front P [] x h = (tt, h.0)
each_front P (y ∷ ys) x h = let r = each_front P ys x h.1 in ((h.0, r.0), r.1)

each_push : {X : Type 0} (P : X → Type 0) (xs : List X) (x : X) → Each P xs → P x → Each P (xs ++ x ∷ [])
each_push P [] x h p = (p, tt)
each_push P (y ∷ ys) x h p = (h.0, each_push P ys x h.1 p)

module _ {A : Algebra} (laws : Lawful A) {W : Type 0} (exact : W → A.Exact) (nothing : W) (row : List W) (price : A.Exact) (ps : List ℕ) (x : ℕ) where
  abbrev E : List ℕ → A.Exact
  E qs = A.plus price (worth A exact nothing row qs)

  pushed : E (ps ++ x ∷ []) ≡ A.plus (E ps) (exact (at A exact nothing row x))
  pushed = ap (A.plus price) (sum_push laws (λ p. exact (at A exact nothing row p)) ps x) ∙ sym (laws.assoc price (worth A exact nothing row ps) (exact (at A exact nothing row x)))

  -- nothing so far
  pub with_nothing : Weighed A exact nothing row price ps None → Weighed A exact nothing row price (ps ++ x ∷ []) None
  with_nothing heavy all =
      let v = exact (at A exact nothing row x) in
      subst (A.lt A.ceiling) (sym pushed) (lt_le_lt laws A.ceiling (E ps) (A.plus (E ps) v) (heavy (each_front (λ p. Open A exact nothing row p → ⊥) ps x all).0) (le_first laws (E ps) v))

  pub with_both : (v w : W) → Weighed A exact nothing row price ps (Some v) → w ≡ at A exact nothing row x → (Open A exact nothing row x → ⊥) → (o : Option W) → Within A exact o (A.plus (exact v) (exact w)) → Weighed A exact nothing row price (ps ++ x ∷ []) o
  with_both v w so_far read shut o h =
      let same : A.plus (exact v) (exact w) ≡ E (ps ++ x ∷ []) = (λ i. A.plus (so_far.1 i) (exact (read i))) ∙ sym pushed in
      elim o as (λ q. Within A exact q (A.plus (exact v) (exact w)) → Weighed A exact nothing row price (ps ++ x ∷ []) q) [
        | None ↦ λ k all. subst (A.lt A.ceiling) same k
        | Some u ↦ λ k. (each_push (λ p. Open A exact nothing row p → ⊥) ps x so_far.0 shut, k ∙ same)
      ] h

module _ {A : Algebra} (laws : Lawful A) {W : Type 0} (exact : W → A.Exact) (nothing : W) (row : List W) (price : A.Exact) where
  -- what is nothing with some is nothing with more
  pub with_more : (ps qs : List ℕ) → Weighed A exact nothing row price ps None → Weighed A exact nothing row price (ps ++ qs) None
  with_more ps [] h = subst (λ xs. Weighed A exact nothing row price xs None) (sym (append-nil ps)) h
  with_more ps (q ∷ qs) h =
      subst (λ xs. Weighed A exact nothing row price xs None) (append_assoc ps (q ∷ []) qs) (with_more (ps ++ q ∷ []) qs (with_nothing laws exact nothing row price ps q h))

-- ---- rules and turns
module _ {A : Algebra} (laws : Lawful A) {W : Type 0} (exact : W → A.Exact) (nothing : W) (n : ℕ) (gives : ℕ → Option (Rule W) → Type 0)
    (one : (k : ℕ) (o : Option (Rule W)) (r : Rule W) → gives k o → gives k (Some r) → o ≡ Some r) (row : List W) where
  abbrev D : System A
  D = system A exact n gives

  -- derivations of settled items, which cost as much as the row says
  gather : (es : List (Entry W)) → Searching A exact nothing D row es → (ps : List ℕ) → AllSettled A exact nothing row ps → (ds : Ders D.Rule) × DerivesAll D ds ps × (cost_all D ds ≡ worth A exact nothing row ps)
  gather es s [] h = (none, tt, refl)
  gather es s (p ∷ ps) h =
      let d = (s.settled p h.0).some in
      let rest = gather es s ps h.1 in
      (more d.0 rest.0, (d.1, rest.1), λ i. A.plus (d.2 i) (rest.2 i))

  module _ (xs ys : List (Entry W)) (k : ℕ) (s : Searching A exact nothing D row xs) (c : Closed A exact nothing n gives k row xs) where
    abbrev Next : Type 0
    Next = Searching A exact nothing D row ys × Closed A exact nothing n gives (k + 1) row ys

    -- no rule with the number k gives anything that fits
    pub consider_idle : ((r : Rule W) → gives k (Some r) → AllSettled A exact nothing row (premises_of r.premises) → Open A exact nothing row r.result
        → Le A (A.plus (exact r.price) (worth A exact nothing row (premises_of r.premises))) A.ceiling → ⊥) → ys ≡ xs → Next
    consider_idle idle same =
        let S : List (Entry W) → Type 0 = λ es. Searching A exact nothing D row es × Closed A exact nothing n gives (k + 1) row es in
        subst S (sym same) (
          s,
          λ r below all free fits.
              elim (ℕ_discrete r.0 k) [
                | yes p ↦ absurd (idle r.1 (subst (λ (j : ℕ). gives j (Some r.1)) p r.3) all free fits)
                | no ne ↦ c r (omega arith) all free fits
              ],
        )

    -- the number k has no rule
    pub consider_none : gives k None → ys ≡ xs → Next
    consider_none lacks = consider_idle (λ r given all free fits.
        let e : None ≡ Some r = one k None r lacks given in
        let z : ◌≡◌ {A = ℕ} 0 1 = cc in
        omega arith)

    module _ (r : Rule W) (within : k < n) (given : gives k (Some r)) where
      abbrev ps : List ℕ
      ps = premises_of r.premises

      abbrev total : A.Exact
      total = A.plus (exact r.price) (worth A exact nothing row ps)

      -- a rule with the number k is r
      same_rule : (q : Numbered n gives) → q.0 ≡ k → q.1 ≡ r
      same_rule q p =
          let e : Some r ≡ Some q.1 = one k (Some r) q.1 given (subst (λ (j : ℕ). gives j (Some q.1)) p q.3) in
          cc

      -- nothing was offered
      pub consider_passed : (Open A exact nothing row r.result → ⊥) ⊎ Weighed A exact nothing row (exact r.price) ps None → ys ≡ xs → Next
      consider_passed why = consider_idle (λ q told all free fits.
          let e = same_rule (k, q, within, told) refl in
          elim why [
            | inl shut ↦ shut (subst (λ (z : Rule W). Open A exact nothing row z.result) e free)
            | inr heavy ↦ subst (λ (z : Rule W). Le A (A.plus (exact z.price) (worth A exact nothing row (premises_of z.premises))) A.ceiling) e fits
                (heavy (subst (λ (z : Rule W). AllSettled A exact nothing row (premises_of z.premises)) e all))
          ])

      module _ (w : W) (free : Open A exact nothing row r.result) (weighed : Weighed A exact nothing row (exact r.price) ps (Some w))
          (o : Offered (cheaper A exact) place (record { cost = w; category = r.result }) xs ys) where
        abbrev entry : Entry W
        entry = record { cost = w; category = r.result }

        reached : Reached D r.result (exact w)
        reached =
            let parts = gather xs s ps weighed.0 in
            (node (k, r, within, given) parts.0, (refl, parts.1), ap (A.plus (exact r.price)) parts.2 ∙ sym weighed.1)

        no_dearer : (e f : Entry W) → cheaper A exact e f ≡ false → Le A (exact f.cost) (exact e.cost)
        no_dearer e f h = (not_out laws exact e f h).0

        closed' : Closed A exact nothing n gives (k + 1) row ys
        closed' q below all open' fits =
            let Here : Rule W → Type 0 = λ z. (e : Entry W) × Has ys e × (e.category ≡ z.result) × Le A (exact e.cost) (A.plus (exact z.price) (worth A exact nothing row (premises_of z.premises))) in
            elim (ℕ_discrete q.0 k) [
              | yes p ↦
                  let f = o.found in
                  let le_w : Le A (exact f.0.cost) (exact w) = no_dearer entry f.0 f.3 in
                  let here : Here r = (f.0, f.1, f.2, subst (Le A (exact f.0.cost)) weighed.1 le_w) in
                  subst Here (sym (same_rule q p)) here
              | no ne ↦
                  let was = c q (omega arith) all open' fits in
                  let f = o.covered was.0 was.1 in
                  let bound = A.plus (exact q.1.price) (worth A exact nothing row (premises_of q.1.premises)) in
                  (f.0, f.1, f.2 ∙ was.2, le_trans laws (exact f.0.cost) (exact was.0.cost) bound (no_dearer was.0 f.0 f.3) was.3)
            ]

        queued' : (e : Entry W) → Has ys e → Open A exact nothing row e.category × Reached D e.category (exact e.cost)
        queued' e h =
            elim (o.only e h) [
              | inl p ↦ subst (λ (z : Entry W). Open A exact nothing row z.category × Reached D z.category (exact z.cost)) (sym p) (free, reached)
              | inr was ↦ s.queued e was
            ]

        pub consider_offered : Next
        consider_offered = (record { settled = s.settled; queued = queued' }, closed')

      pub considered : Considered A exact nothing row r xs ys → Next
      considered (inl h) = consider_passed h.0 h.1
      considered (inr h) = consider_offered h.0 h.1 h.2 h.3

-- ---- settling
module _ {A : Algebra} (laws : Lawful A) {W : Type 0} (exact : W → A.Exact) (nothing : W) (within : (w : W) → Le A (exact w) A.ceiling) (same : (v w : W) → exact v ≡ exact w → v ≡ w) (empty : exact nothing ≡ A.none) where
  -- whether an item is settled can be told
  pub decide : (row : List W) (x : ℕ) → Open A exact nothing row x ⊎ (Open A exact nothing row x → ⊥)
  decide row x =
      let v = at A exact nothing row x in
      elim (A.order (exact v) A.none) [
        | inl e ↦ inl (same v nothing (e ∙ sym empty))
        | inr o ↦ inr (λ p.
            let z : exact v ≡ A.none = ap exact p ∙ empty in
            elim o [ inl l ↦ laws.irrefl A.none (subst (λ (a : A.Exact). A.lt a A.none) z l) | inr l ↦ laws.irrefl A.none (subst (A.lt A.none) z l) ])
      ]

  -- ---- how many are open
  opens_less : (row : List W) (x : ℕ) (w : W) → x < length row → at A exact nothing row x ≡ nothing → A.lt A.none (exact w) → suc (opens A exact (set row x w)) ≡ opens A exact row
  unfolding opens
  opens_less [] x w h free up = absurd (omega arith)
  opens_less (v ∷ vs) zero w h free up =
      let level : exact v ≡ A.none = ap exact free ∙ empty in
      let T : (exact v ≡ A.none) ⊎ (A.lt (exact v) A.none ⊎ A.lt A.none (exact v)) → ℕ = λ q. elim q [ inl _ ↦ suc (opens A exact vs) | inr _ ↦ opens A exact vs ] in
      let U : (exact w ≡ A.none) ⊎ (A.lt (exact w) A.none ⊎ A.lt A.none (exact w)) → ℕ = λ q. elim q [ inl _ ↦ suc (opens A exact vs) | inr _ ↦ opens A exact vs ] in
      let a : T (A.order (exact v) A.none) ≡ suc (opens A exact vs) =
      elim (A.order (exact v) A.none) as (λ q. T q ≡ suc (opens A exact vs)) [
        | inl _ ↦ refl
        | inr o ↦ absurd (elim o [ inl l ↦ laws.irrefl A.none (subst (λ (b : A.Exact). A.lt b A.none) level l) | inr l ↦ laws.irrefl A.none (subst (A.lt A.none) level l) ])
      ] in
      let b : U (A.order (exact w) A.none) ≡ opens A exact vs =
      elim (A.order (exact w) A.none) as (λ q. U q ≡ opens A exact vs) [ inl e ↦ absurd (laws.irrefl A.none (subst (A.lt A.none) e up)) | inr _ ↦ refl ] in
      ap suc b ∙ sym a
  opens_less (v ∷ vs) (suc x) w h free up =
      let rest : suc (opens A exact (set vs x w)) ≡ opens A exact vs = opens_less vs x w (omega arith) free up in
      let T : ℕ → (exact v ≡ A.none) ⊎ (A.lt (exact v) A.none ⊎ A.lt A.none (exact v)) → ℕ = λ k q. elim q [ inl _ ↦ suc k | inr _ ↦ k ] in
      elim (A.order (exact v) A.none) as (λ q. suc (T (opens A exact (set vs x w)) q) ≡ T (opens A exact vs) q) [ inl _ ↦ ap suc rest | inr _ ↦ rest ]

  module _ (n : ℕ) (gives : ℕ → Option (Rule W) → Type 0) {items : ℕ} (fit : (k : ℕ) (r : Rule W) → k < n → gives k (Some r) → Inside A exact items r) (row : List W) where
    abbrev R : System A
    R = system A exact n gives

    -- every derivation costs something
    above : (d : Der R.Rule) (x : ℕ) → Derives R d x → A.lt A.none (cost R d)
    above (node r ds) x h =
        let w = exact r.1.price in
        lt_le_lt laws A.none w (A.plus w (cost_all R ds)) (fit r.0 r.1 r.2 r.3).priced (le_first laws w (cost_all R ds))

    abbrev value : ℕ → A.Exact
    value x = exact (at A exact nothing row x)

    module _ (xs : List (Entry W)) (s : Searching A exact nothing R row xs) (c : Closed A exact nothing n gives n row xs) where
      least_of : (x : ℕ) → (Open A exact nothing row x → ⊥) → (d : Der R.Rule) → Derives R d x → Le A (value x) (cost R d)
      least_of x shut = (s.settled x shut).least

      -- where P holds of what waits and of what is above the ceiling, it holds of every derivation of an open item
      reach : (P : A.Exact → Type 0) → ((a b : A.Exact) → P a → Le A a b → P b) → ((a : A.Exact) → A.lt A.ceiling a → P a) → ((e : Entry W) → Has xs e → P (exact e.cost))
          → (d : Der R.Rule) (x : ℕ) → Derives R d x → Open A exact nothing row x → P (cost R d)
      reach P up over waits =
          frontier laws R value (Open A exact nothing row) (decide row) least_of P up (λ r all free.
          let t = A.plus (exact r.1.price) (worth A exact nothing row (premises_of r.1.premises)) in
          elim (cases laws A.ceiling t) [
            | inl fits ↦ let e = c r r.2 all free fits in up (exact e.0.cost) t (waits e.0 e.1) e.3
            | inr heavy ↦ over t heavy
          ])

      -- nothing waits
      pub solved : xs ≡ [] → Solved A exact nothing R (length row) row
      solved no-entry x inside =
          elim (decide row x) [
            | inl free ↦ inr (
              free,
              λ d h.
                  reach (A.lt A.ceiling) (λ a b. lt_le_lt laws A.ceiling a b) (λ a l. l) (λ e h. let l = (subst (λ (es : List (Entry W)). Has es e) no-entry h).1 in absurd (omega arith)) d x h free,
            )
            | inr shut ↦ inl (shut, s.settled x shut)
          ]

      -- the first entry is settled
      module _ (e : Entry W) (ys : List (Entry W)) (t : Taken (cheaper A exact) place e xs ys) (inside : e.category < length row) where
        abbrev row' : List W
        row' = set row e.category e.cost

        first_of : (f : Entry W) → Has xs f → Le A (exact e.cost) (exact f.cost)
        first_of f h = (not_out laws exact f e (subst (λ (z : Entry W). cheaper A exact z e ≡ false) (h.2 f) (t.first h.0 f h.1))).0

        found : Found R e.category (exact e.cost)
        found =
            let was = s.queued e t.member in
            record {
              some = was.1;
              least = λ d h.
                  reach (Le A (exact e.cost)) (λ a b. le_trans laws (exact e.cost) a b) (λ a l. lt_le laws (exact e.cost) a (le_lt laws (exact e.cost) A.ceiling a (within e.cost) l)) first_of d e.category h was.0;
            }

        here : at A exact nothing row' e.category ≡ e.cost
        here = get_or-set_same row e.category e.cost nothing inside

        other : (x : ℕ) → (x ≡ e.category → ⊥) → at A exact nothing row' x ≡ at A exact nothing row x
        other x ne = get_or-set_other row e.category x e.cost nothing ne

        pub settle : Searching A exact nothing R row' ys
        settle = record {
          settled = λ x shut. elim (ℕ_discrete x e.category) [
            | yes p ↦
                let w : exact e.cost ≡ exact (at A exact nothing row' x) = ap exact (sym here ∙ ap (at A exact nothing row') (sym p)) in
                let F : ℕ → Type 0 = λ y. Found R y (exact e.cost) in
                subst (Found R x) w (subst F (sym p) found)
            | no ne ↦
                let same' = other x ne in
                subst (Found R x) (ap exact (sym same')) (s.settled x (λ free. shut (same' ∙ free)))
          ];
          queued = λ f h.
              let was = t.only f h in
              let before = s.queued f was.0 in
              (other f.category was.1 ∙ before.0, before.1);
        }

        -- and fewer are open: it was not settled before, but is now
        pub fewer : suc (opens A exact row') ≡ opens A exact row
        fewer =
            let was = s.queued e t.member in
            opens_less row e.category e.cost inside was.0 (subst (A.lt A.none) was.1.2 (above was.1.0 e.category was.1.1))

-- ---- the beginning
pub blank_open : {W : Type 0} (nothing : W) (n x : ℕ) → get_or (replicate n nothing) x nothing ≡ nothing
blank_open nothing n x = elim (cases_lt x n) [ inl l ↦ get_or-replicate n x nothing nothing l | inr l ↦ get_or_past (replicate n nothing) x nothing (rw length-replicate l) ]

pub begin : (A : Algebra) {W : Type 0} (exact : W → A.Exact) (nothing : W) (D : System A) (n : ℕ) (row : List W) (es : List (Entry W)) → row ≡ replicate n nothing → es ≡ [] → Searching A exact nothing D row es
begin A {W} exact nothing D n row es blank no-entry = record {
  settled = λ x shut. absurd (shut (ap (λ r. get_or r x nothing) blank ∙ blank_open nothing n x));
  queued = λ e h. let l = (subst (λ (xs : List (Entry W)). Has xs e) no-entry h).1 in absurd (omega arith);
}

-- ---- the agenda
-- what was taken, its order being the one that is derived for entries, is the cheapest
module _ {A : Algebra} {W : Type 0} (exact : W → A.Exact) (cmp : W → W → Ordering) (compared : (v w : W) → Compared A (exact v) (exact w) (cmp v w)) (laws : Lawful A) (e : Entry W) (xs ys : List (Entry W)) where
  pub taken_cheaper : Taken (before (by_cost cmp)) place e xs ys → Taken (cheaper A exact) place e xs ys
  taken_cheaper h = subst (λ (lt : Entry W → Entry W → Bool). Taken lt place e xs ys) (by_cost_cheaper A exact cmp compared laws) h

-- an entry's index is one that there is room for
module _ {X : Type 0} {slotted : Slotted.Ghosts X} {ord : Ord.Ghosts X} {eq : PartialEq.Ghosts X} {partial : PartialOrd.Ghosts X} where
  pub entry_inside : (a : Agenda X slotted ord eq partial) (x : X) → Has (entries a) x → slotted.index x < room a
  entry_inside a x h =
      let l = (a.placed x h.0 h.1).0 in
      let e : slotted.index (get_or (entries a) h.0 x) ≡ slotted.index x = ap slotted.index (h.2 x) in
      omega (arith, l, e, length-map (cells_of a) (λ c. c.slot))
