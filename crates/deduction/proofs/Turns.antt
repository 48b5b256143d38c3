-- The search begins well, and a turn keeps what holds between turns. Assumes nothing.
use Rattle.std.proofs.Common.{◌≡◌, ℕ, ◌⊎◌, List, [], ◌∷◌, sym, refl, subst, subst₂, inl, inr}
use Rattle.weight.specs.Algebra.{Algebra, Lawful}
use Rattle.deduction.specs.Counts.{Among, Listed}
use Rattle.deduction.specs.Deduction.{System, Priced, Der, Ders, node, none, more, Each, Key, Before, Derives, DerivesAll, NoWorse, key, Keyed, Consistent}
use Rattle.deduction.specs.Search.{Item, Uses, Built, Served, Sound, Searched, Begun, Turned}
use Rattle.deduction.proofs.Keys.{before_trans, not_after_other}
use Rattle.deduction.proofs.Derivations.{no_worse_trans, children}
use Rattle.deduction.proofs.Frontier.{pop, not_settled}

pub each_more : {R : Type 0} (P P' : Der R → ℕ → Type 0) → ((d : Der R) (x : ℕ) → P d x → P' d x) → (ds : Ders R) (xs : List ℕ) → Each P ds xs → Each P' ds xs
each_more P P' f none [] h = tt
each_more P P' f none (x ∷ xs) h = absurd h
each_more P P' f (more d ds) [] h = absurd h
each_more P P' f (more d ds) (x ∷ xs) h = (f d x h.0, each_more P P' f ds xs h.1)

module _ {A : Algebra} (D : System A) where
  pub each_derives : (P : Der D.Rule → ℕ → Type 0) → ((d : Der D.Rule) (x : ℕ) → P d x → Derives D d x) → (ds : Ders D.Rule) (xs : List ℕ) → Each P ds xs → DerivesAll D ds xs
  each_derives P f none [] h = tt
  each_derives P f none (x ∷ xs) h = absurd h
  each_derives P f (more d ds) [] h = absurd h
  each_derives P f (more d ds) (x ∷ xs) h = (f d x h.0, each_derives P f ds xs h.1)

  built_derives : (P : Der D.Rule → ℕ → Type 0) → ((d : Der D.Rule) (x : ℕ) → P d x → Derives D d x) → (d : Der D.Rule) (x : ℕ) → Built D P d x → Derives D d x
  built_derives P f (node r ds) x h = (h.0, each_derives P f ds (D.prems r) h.1)

  pub built_more : (P P' : Der D.Rule → ℕ → Type 0) → ((d : Der D.Rule) (x : ℕ) → P d x → P' d x) → (d : Der D.Rule) (x : ℕ) → Built D P d x → Built D P' d x
  built_more P P' f (node r ds) x h = (h.0, each_more P P' f ds (D.prems r) h.1)

  -- ---- the start
  empty_each : (P : Der D.Rule → ℕ → Type 0) → ((d : Der D.Rule) (x : ℕ) → P d x → ⊥) → (ds : Ders D.Rule) (xs : List ℕ) → Each P ds xs → (ds ≡ none) × (xs ≡ [])
  empty_each P f none [] h = (refl, refl)
  empty_each P f none (x ∷ xs) h = absurd h
  empty_each P f (more d ds) [] h = absurd h
  empty_each P f (more d ds) (x ∷ xs) h = absurd (f d x h.0)

  pub begin : (e : ℕ → A.Exact) (S Q : Der D.Rule → ℕ → Type 0) → Begun D e S Q → Searched D e S Q []
  begin e S Q b = record {
    listed = record { distinct = tt; sound = λ x a. absurd a; complete = λ x i. absurd (b.nothing i.0 x i.1) };
    settled = λ d x h. absurd (b.nothing d x h);
    queued = λ d x h. record {
      derives = built_derives S (λ c y g. absurd (b.nothing c y g)) d x (b.agenda d x h).0;
      keyed = (b.agenda d x h).1;
      built = (b.agenda d x h).0;
    };
    fresh = λ c d x h g. b.nothing c x h;
    single = b.single;
    closed = λ r cs h k. let p = empty_each S b.nothing cs (D.prems r) h in
        let P : Ders D.Rule → Type 0 = λ ds. Keyed D e (node r ds) (D.concl r) → Served D Q (node r ds) (D.concl r) in
        inr (subst P (sym p.0) (b.offered r none (p.1, refl)) k);
    best = λ c x h. absurd (b.nothing c x h);
    ordered = λ c d x y h. absurd (b.nothing c x h);
  }

-- ---- a turn
module _ {A : Algebra} (laws : Lawful A) (D : System A) (e : ℕ → A.Exact) (priced : Priced D) (consistent : Consistent D e) (S Q S' Q' : Der D.Rule → ℕ → Type 0) (xs : List ℕ) (s : Der D.Rule) (x : ℕ) (at : Searched D e S Q xs) (t : Turned D e S Q S' Q' s x) where
  unsettled : Item S x → ⊥
  unsettled = not_settled laws D e priced consistent S Q xs at s x t.taken

  -- what is settled now at x is s
  only : (c : Der D.Rule) (y : ℕ) → y ≡ x → S' c y → c ≡ s
  only c y p h = elim (t.no_other c y h) [ inl old ↦ absurd (unsettled (c, subst (S c) p old)) | inr new ↦ new.0 ]

  -- all were settled before, or x is among them
  split : (cs : Ders D.Rule) (ys : List ℕ) → Each S' cs ys → Each S cs ys ⊎ Among x ys
  split none [] h = inl tt
  split none (y ∷ ys) h = absurd h
  split (more c cs) [] h = absurd h
  split (more c cs) (y ∷ ys) h =
      elim (t.no_other c y h.0) [
        | inr new ↦ inr (inl (sym new.1))
        | inl old ↦ elim (split cs ys h.1) [ inl all ↦ inl (old, all) | inr a ↦ inr (inr a) ]
      ]

  sound_more : (d : Der D.Rule) (y : ℕ) → Sound D e S d y → Sound D e S' d y
  sound_more d y h = record { derives = h.derives; keyed = h.keyed; built = built_more D S S' t.stays d y h.built }

  settled' : (d : Der D.Rule) (y : ℕ) → S' d y → Sound D e S' d y
  settled' d y h =
      elim (t.no_other d y h) [
        | inl old ↦ sound_more d y (at.settled d y old)
        | inr new ↦ subst₂ (Sound D e S') (sym new.0) (sym new.1) (sound_more s x (at.queued s x t.taken.entry))
      ]

  queued' : (d : Der D.Rule) (y : ℕ) → Q' d y → Sound D e S' d y
  queued' d y h =
      elim (t.agenda d y h) [
        | inl old ↦ sound_more d y (at.queued d y old)
        | inr new ↦ record { derives = built_derives D S' (λ c z g. (settled' c z g).derives) d y new.0; keyed = new.2; built = new.0 }
      ]

  closed' : (r : D.Rule) (cs : Ders D.Rule) → Each S' cs (D.prems r) → Keyed D e (node r cs) (D.concl r) → Item S' (D.concl r) ⊎ Served D Q' (node r cs) (D.concl r)
  closed' r cs h k =
      elim (split cs (D.prems r) h) [
        | inr a ↦ t.offered r cs (h, a) k
        | inl old ↦ elim (at.closed r cs old k) [
          | inl i ↦ inl (i.0, t.stays i.0 (D.concl r) i.1)
          | inr v ↦ elim (t.kept v.0 (D.concl r) v.1) [
            | inl p ↦ inl (s, subst (S' s) (sym p) t.settles)
            | inr w ↦ inr (w.0, w.1, no_worse_trans laws D w.0 v.0 (node r cs) w.2 v.2)
          ]
        ]
      ]

  best' : (c : Der D.Rule) (y : ℕ) → S' c y → (d : Der D.Rule) → Derives D d y → NoWorse D c d
  best' c y h =
      let P : Der D.Rule → ℕ → Type 0 = λ b z. (d : Der D.Rule) → Derives D d z → NoWorse D b d in
      elim (t.no_other c y h) [
        | inl old ↦ at.best c y old
        | inr new ↦ subst₂ P (sym new.0) (sym new.1) (pop laws D e priced consistent S Q xs at s x t.taken)
      ]

  -- a part at x is s
  found : (K : Key A) (ds : Ders D.Rule) (ys : List ℕ) → Each S' ds ys → Each (λ d y. Keyed D e d y × Before A (key D e d y) K) ds ys → Among x ys → Before A (key D e s x) K
  found K none [] h b a = absurd a
  found K none (y ∷ ys) h b a = absurd h
  found K (more d ds) [] h b a = absurd h
  found K (more d ds) (y ∷ ys) h b (inl p) =
      let P : Der D.Rule → ℕ → Type 0 = λ c z. Before A (key D e c z) K in
      subst₂ P (only d y (sym p) h.0) (sym p) b.0.1
  found K (more d ds) (y ∷ ys) h b (inr a) = found K ds ys h.1 b.1 a

  made_after : (d : Der D.Rule) (y : ℕ) → Built D S' d y → Uses D x d → Keyed D e d y → Before A (key D e s x) (key D e d y)
  made_after (node r ds) y h u k =
      let back : Keyed D e (node r ds) (D.concl r) = subst (Keyed D e (node r ds)) (sym h.0) k in
      let derived = each_derives D S' (λ c z g. (settled' c z g).derives) ds (D.prems r) h.1 in
      let P : ℕ → Type 0 = λ z. Before A (key D e s x) (key D e (node r ds) z) in
      subst P h.0 (found (key D e (node r ds) (D.concl r)) ds (D.prems r) h.1 (children laws D e priced consistent r ds derived back) u)

  -- every entry is now after s at x
  after : (d : Der D.Rule) (y : ℕ) → Q' d y → Before A (key D e s x) (key D e d y)
  after d y h =
      elim (t.agenda d y h) [
        | inl old ↦ not_after_other laws (key D e s x) (key D e d y) (t.taken.least d y old) (λ p. t.fresh s d y (subst (S' s) p t.settles) h)
        | inr new ↦ made_after d y new.0 new.1 new.2
      ]

  ordered' : (c d : Der D.Rule) (y z : ℕ) → S' c y → Q' d z → Before A (key D e c y) (key D e d z)
  ordered' c d y z h g =
      let P : Der D.Rule → ℕ → Type 0 = λ b w. Before A (key D e b w) (key D e d z) in
      elim (t.no_other c y h) [
        | inl old ↦ before_trans laws (key D e c y) (key D e s x) (key D e d z) (at.ordered c s y x old t.taken.entry) (after d z g)
        | inr new ↦ subst₂ P (sym new.0) (sym new.1) (after d z g)
      ]

  listed' : Listed (Item S') (x ∷ xs)
  listed' = record { distinct = (λ a. unsettled (at.listed.sound x a), at.listed.distinct); sound = sound'; complete = complete' }
    where
      sound' : (y : ℕ) → Among y (x ∷ xs) → Item S' y
      sound' y (inl p) = (s, subst (S' s) (sym p) t.settles)
      sound' y (inr a) = let i = at.listed.sound y a in (i.0, t.stays i.0 y i.1)

      complete' : (y : ℕ) → Item S' y → Among y (x ∷ xs)
      complete' y i = elim (t.no_other i.0 y i.1) [ inl old ↦ inr (at.listed.complete y (i.0, old)) | inr new ↦ inl new.1 ]

  pub step : Searched D e S' Q' (x ∷ xs)
  step = record {
    listed = listed';
    settled = settled';
    queued = queued';
    fresh = t.fresh;
    single = t.single;
    closed = closed';
    best = best';
    ordered = ordered';
  }
