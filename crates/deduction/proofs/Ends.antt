-- What a search has found when it ends. Assumes nothing.
use Rattle.std.proofs.Common.{◌≡◌, ℕ, ◌≤◌, List, ◌∷◌, length, sym, ap, ◌∙◌, subst, inl, inr, arith}
use Rattle.weight.specs.Algebra.{Algebra, Lawful, Le}
use Rattle.weight.proofs.Orders.{le_cases, lt_le_lt, le_trans, le_plus_right}
use Rattle.deduction.specs.Counts.{Among, Listed, Number, Exceeds}
use Rattle.deduction.proofs.Numbers.{rising_number}
use Rattle.deduction.specs.Deduction.{System, Priced, Der, NotLater, Key, Before, NotAfter, Derives, cost, word, NoWorse, Fits, key, Keyed, Consistent}
use Rattle.deduction.specs.Search.{HasKey, CountedTo, Counted, Least, Searched}
use Rattle.deduction.proofs.Keys.{sooner_irrefl, sooner_trans, before_not_after, before_not_after_before, not_after_trans, not_after_refl, not_after_item}
use Rattle.deduction.proofs.Derivations.{no_worse_le}
use Rattle.deduction.proofs.Frontier.{frontier, pop, pop_key, not_settled}

module _ {A : Algebra} (laws : Lawful A) (D : System A) where
  module _ (e : ℕ → A.Exact) (priced : Priced D) (consistent : Consistent D e) (S Q : Der D.Rule → ℕ → Type 0) (xs : List ℕ) (at : Searched D e S Q xs) where
    settled_key : (y : ℕ) → Among y xs → HasKey D e y
    settled_key y a = let i = at.listed.sound y a in let s = at.settled i.0 y i.1 in (i.0, s.derives, s.keyed)

    -- where nothing is left, the settled items are those with a key
    pub emptied : ((d : Der D.Rule) (x : ℕ) → Q d x → ⊥) → Listed (HasKey D e) xs
    emptied nothing = record {
      distinct = at.listed.distinct;
      sound = settled_key;
      complete = λ y h.
          elim (frontier laws D e priced consistent S Q xs at h.0 y h.1 h.2) [ inl i ↦ at.listed.complete y i | inr w ↦ absurd (nothing w.0 w.1 w.2) ];
    }

    -- then an item without an estimate that is not settled has no derivation within the ceiling
    pub none_left : ((d : Der D.Rule) (x : ℕ) → Q d x → ⊥) → (g : ℕ) → e g ≡ A.none → (Among g xs → ⊥) → (d : Der D.Rule) → Derives D d g → Fits D d → ⊥
    none_left nothing g free out d h fits =
        let same : cost D d ≡ A.plus (cost D d) (e g) = sym (laws.identity (cost D d)) ∙ laws.comm A.none (cost D d) ∙ ap (A.plus (cost D d)) (sym free) in
        out ((emptied nothing).complete g (d, h, subst (λ (a : A.Exact). Le A a A.ceiling) same fits))

    module _ (s : Der D.Rule) (x : ℕ) (q : Least D e Q s x) where
      new : Among x xs → ⊥
      new a = not_settled laws D e priced consistent S Q xs at s x q (at.listed.sound x a)

      -- with the least entry, the settled items are those with a key not after its key
      pub reached : Listed (CountedTo D e s x) (x ∷ xs)
      reached = record { distinct = (new, at.listed.distinct); sound = sound'; complete = complete' }
        where
          sound' : (y : ℕ) → Among y (x ∷ xs) → CountedTo D e s x y
          sound' y (inl p) = subst (CountedTo D e s x) (sym p) (s, (at.queued s x q.entry).derives, not_after_refl laws (key D e s x))
          sound' y (inr a) =
              let i = at.listed.sound y a in
              (i.0, (at.settled i.0 y i.1).derives, before_not_after laws (key D e i.0 y) (key D e s x) (at.ordered i.0 s y x i.1 q.entry))

          complete' : (y : ℕ) → CountedTo D e s x y → Among y (x ∷ xs)
          complete' y c =
              let d = c.0 in
              let k : Keyed D e d y = le_trans laws (A.plus (cost D d) (e y)) (A.plus (cost D s) (e x)) A.ceiling (λ l. c.2 (inl l)) (at.queued s x q.entry).keyed in
              elim (frontier laws D e priced consistent S Q xs at d y c.1 k) [
                | inl i ↦ inr (at.listed.complete y i)
                | inr w ↦ inl (not_after_item laws (key D e d y) (key D e s x) c.2 (not_after_trans laws (key D e s x) (key D e w.0 w.1) (key D e d y) (q.least w.0 w.1 w.2) w.3))
              ]

    -- ---- the turns of a search for g

    -- a settled entry is before every derivation of g with a key, while g is not settled
    before_goal : (g : ℕ) → (Among g xs → ⊥) → (c : Der D.Rule) (y : ℕ) → S c y → (t : Der D.Rule) → Derives D t g → Keyed D e t g → NotAfter A (key D e c y) (key D e t g)
    before_goal g out c y i t h k =
        elim (frontier laws D e priced consistent S Q xs at t g h k) [
          | inl j ↦ absurd (out (at.listed.complete g j))
          | inr w ↦ before_not_after laws (key D e c y) (key D e t g)
              (before_not_after_before laws (key D e c y) (key D e w.0 w.1) (key D e t g) (at.ordered c w.0 y w.1 i w.2) w.3)
        ]

    settled_counted : (g : ℕ) → (Among g xs → ⊥) → (y : ℕ) → Among y xs → Counted D e g y
    settled_counted g out y a =
        let i = at.listed.sound y a in
        let h = at.settled i.0 y i.1 in
        (i.0, h.derives, h.keyed, before_goal g out i.0 y i.1)

    -- g is the item of the least entry: the turns are one more than the settled items
    pub turns_reached : (s : Der D.Rule) (g : ℕ) → Least D e Q s g → Listed (Counted D e g) (g ∷ xs)
    turns_reached s g q =
        let here = at.queued s g q.entry in
        let r = reached s g q in
        record {
          distinct = r.distinct;
          sound = λ y a.
              let c = r.sound y a in
              let keyed : Keyed D e c.0 y =
              le_trans laws (A.plus (cost D c.0) (e y)) (A.plus (cost D s) (e g)) A.ceiling (λ l. c.2 (inl l)) here.keyed in
              (c.0, c.1, keyed, λ t h k. not_after_trans laws (key D e c.0 y) (key D e s g) (key D e t g) c.2 (pop_key laws D e priced consistent S Q xs at s g q t h k));
          complete = λ y c. r.complete y (c.0, c.1, c.3 s here.derives here.keyed);
        }

    -- the agenda is empty: the turns are the settled items
    pub turns_emptied : ((d : Der D.Rule) (x : ℕ) → Q d x → ⊥) → (g : ℕ) → (Among g xs → ⊥) → Listed (Counted D e g) xs
    turns_emptied nothing g out = record {
      distinct = at.listed.distinct;
      sound = settled_counted g out;
      complete = λ y c. (emptied nothing).complete y (c.0, c.1, c.2);
    }

    -- an entry is left and g is not settled: the turns are more than the settled items
    pub turns_exceed : (s : Der D.Rule) (x : ℕ) → Least D e Q s x → (g : ℕ) → (Among g xs → ⊥) → Exceeds (Counted D e g) (length xs)
    turns_exceed s x q g out = record {
      some = x ∷ xs;
      distinct = (new s x q, at.listed.distinct);
      sound = sound';
      longer = omega arith;
    }
      where
        goal : (t : Der D.Rule) → Derives D t g → Keyed D e t g → NotAfter A (key D e s x) (key D e t g)
        goal t h k =
            elim (frontier laws D e priced consistent S Q xs at t g h k) [
              | inl j ↦ absurd (out (at.listed.complete g j))
              | inr w ↦ not_after_trans laws (key D e s x) (key D e w.0 w.1) (key D e t g) (q.least w.0 w.1 w.2) w.3
            ]

        sound' : (y : ℕ) → Among y (x ∷ xs) → Counted D e g y
        sound' y (inl p) = let h = at.queued s x q.entry in subst (Counted D e g) (sym p) (s, h.derives, h.keyed, goal)
        sound' y (inr a) = settled_counted g out y a

  -- ---- two best derivations weigh the same and have one word
  same_word : (v w : List ℕ) → NotLater v w → NotLater w v → v ≡ w
  same_word v w (inl p) g = p
  same_word v w (inr h) (inl p) = sym p
  same_word v w (inr h) (inr g) = absurd (sooner_irrefl v (sooner_trans v w v h g))

  pub one_best : (c d : Der D.Rule) → NoWorse D c d → NoWorse D d c → (cost D c ≡ cost D d) × (word D c ≡ word D d)
  one_best c d (inl h) g = absurd (no_worse_le laws D d c g h)
  one_best c d (inr h) (inl g) = absurd (no_worse_le laws D c d (inr h) g)
  one_best c d (inr h) (inr g) = (h.0, same_word (word D c) (word D d) h.1 g.1)

  -- ---- two estimates
  module _ (e e' : ℕ → A.Exact) (higher : (x : ℕ) → Le A (e x) (e' x)) (g : ℕ) (free : e g ≡ A.none) (free' : e' g ≡ A.none) where
    raise : (k : Key A) (d : Der D.Rule) (x : ℕ) → Before A k (key D e d x) → Before A k (key D e' d x)
    raise k d x (inl l) = inl (lt_le_lt laws k.whole (A.plus (cost D d) (e x)) (A.plus (cost D d) (e' x)) l (le_plus_right laws (cost D d) (e x) (e' x) (higher x)))
    raise k d x (inr h) =
        elim (le_cases laws (A.plus (cost D d) (e x)) (A.plus (cost D d) (e' x)) (le_plus_right laws (cost D d) (e x) (e' x) (higher x))) [
          | inl p ↦ inr (h.0 ∙ p, h.1)
          | inr l ↦ inl (subst (λ (a : A.Exact). A.lt a (A.plus (cost D d) (e' x))) (sym h.0) l)
        ]

    free_both : e g ≡ e' g
    free_both = free ∙ sym free'

    -- what a higher estimate counts a lower one counts too
    pub fewer_counted : (x : ℕ) → Counted D e' g x → Counted D e g x
    fewer_counted x c =
        let d = c.0 in
        let lower : Keyed D e d x =
        le_trans laws (A.plus (cost D d) (e x)) (A.plus (cost D d) (e' x)) A.ceiling (le_plus_right laws (cost D d) (e x) (e' x) (higher x)) c.2 in (
          d,
          c.1,
          lower,
          λ s h k b.
              let goal : key D e s g ≡ key D e' s g = λ i. record { whole = A.plus (cost D s) (free_both i); cost = cost D s; item = g } in
              c.3 s h (subst (λ (a : A.Exact). Le A (A.plus (cost D s) a) A.ceiling) free_both k)
              (raise (key D e' s g) d x (subst (λ (l : Key A). Before A l (key D e d x)) goal b)),
        )

    -- so the higher estimate takes no more turns
    pub fewer_turns : (m n : ℕ) → Number (Counted D e' g) m → Number (Counted D e g) n → m ≤ n
    fewer_turns m n = rising_number (Counted D e' g) (Counted D e g) m n fewer_counted

-- two searches that have the goal as their least entry: its derivations weigh the same and have one word
module _ {A : Algebra} (laws : Lawful A) (D : System A) (e e' : ℕ → A.Exact) (priced : Priced D) (con : Consistent D e) (con' : Consistent D e')
    (S Q S' Q' : Der D.Rule → ℕ → Type 0) (xs xs' : List ℕ) (at : Searched D e S Q xs) (at' : Searched D e' S' Q' xs') where
  pub same_answer : (g : ℕ) (s s' : Der D.Rule) → Least D e Q s g → Least D e' Q' s' g → (cost D s ≡ cost D s') × (word D s ≡ word D s')
  same_answer g s s' q q' =
      one_best laws D s s' (pop laws D e priced con S Q xs at s g q s' (at'.queued s' g q'.entry).derives) (pop laws D e' priced con' S' Q' xs' at' s' g q' s (at.queued s g q.entry).derives)
