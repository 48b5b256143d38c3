-- One offer after another, and what a chart's writes do. Assumes nothing.
use Rattle.std.proofs.Common.{◌≡◌, ℕ, ◌⊎◌, sym, ap, ◌∙◌, subst, subst₂, inl, inr, arith}
use native.Mathlib.Decide.{ℕ_discrete}
use Rattle.weight.specs.Algebra.{Algebra, Lawful}
use Rattle.deduction.specs.Deduction.{System, Der, Ders, node, NotAfter, NoWorse, key, Keyed}
use Rattle.deduction.specs.Search.{Item, Uses, Built, Served, Beginning, Turning, Offered, Stage, is_absent, is_queued, is_settled, Settled, Queued, Single, Same}
use Rattle.deduction.proofs.Derivations.{no_worse_refl, no_worse_trans}
use Rattle.deduction.proofs.Turns.{built_more}

-- an item has one stage
pub not_both : {s : Stage} → s ≡ is_queued → s ≡ is_settled → ⊥
not_both p q = let z : ◌≡◌ {A = ℕ} 0 1 = cc in omega arith

pub queued_there : {s : Stage} → s ≡ is_queued → s ≡ is_absent → ⊥
queued_there p q = let z : ◌≡◌ {A = ℕ} 0 1 = cc in omega arith

pub settled_there : {s : Stage} → s ≡ is_settled → s ≡ is_absent → ⊥
settled_there p q = let z : ◌≡◌ {A = ℕ} 0 1 = cc in omega arith

module _ {A : Algebra} (laws : Lawful A) (D : System A) (e : ℕ → A.Exact) where
  served_on : (Q Q' : Der D.Rule → ℕ → Type 0) → ((d : Der D.Rule) (z : ℕ) → Q d z → Served D Q' d z) → (d : Der D.Rule) (z : ℕ) → Served D Q d z → Served D Q' d z
  served_on Q Q' kept d z v = let w = kept v.0 z v.1 in (w.0, w.1, no_worse_trans laws D w.0 v.0 d w.2 v.2)

  -- ---- before the first turn
  pub begin_none : (S Q : Der D.Rule → ℕ → Type 0) (Done : Der D.Rule → Type 0) → ((d : Der D.Rule) (x : ℕ) → S d x → ⊥) → ((d : Der D.Rule) (x : ℕ) → Q d x → ⊥) → ((d : Der D.Rule) → Done d → ⊥) → Beginning D e S Q Done
  begin_none S Q Done no-s no-q no-d = record {
    nothing = no-s;
    agenda = λ d x h. absurd (no-q d x h);
    single = λ c d x h. absurd (no-q c x h);
    offered = λ r cs h. absurd (no-d (node r cs) h);
  }

  -- the agenda's entries need no settled part, so that S may be any that is empty
  pub begin_offer : (S Q₁ Q₂ : Der D.Rule → ℕ → Type 0) (Done Done' : Der D.Rule → Type 0) (c : Der D.Rule) (y : ℕ) → Built D S c y → Keyed D e c y → Offered D S Q₁ Q₂ c y
      → ((r : D.Rule) (cs : Ders D.Rule) → Done' (node r cs) → Done (node r cs) ⊎ (NoWorse D c (node r cs) × (D.concl r ≡ y))) → Beginning D e S Q₁ Done → Beginning D e S Q₂ Done'
  begin_offer S Q₁ Q₂ Done Done' c y built keyed o more-done b = record {
    nothing = b.nothing;
    agenda = agenda';
    single = o.single;
    offered = offered';
  }
    where
      P : Der D.Rule → ℕ → Type 0
      P d z = Built D S d z × Keyed D e d z

      agenda' : (d : Der D.Rule) (z : ℕ) → Q₂ d z → Built D S d z × Keyed D e d z
      agenda' d z h = elim (o.only d z h) [ inl old ↦ b.agenda d z old | inr new ↦ subst₂ P (sym new.0) (sym new.1) (built, keyed) ]

      offered' : (r : D.Rule) (cs : Ders D.Rule) → Done' (node r cs) → Keyed D e (node r cs) (D.concl r) → Served D Q₂ (node r cs) (D.concl r)
      offered' r cs h k =
          elim (more-done r cs h) [
            | inl old ↦ served_on Q₁ Q₂ o.kept (node r cs) (D.concl r) (b.offered r cs old k)
            | inr new ↦
                let P : ℕ → Type 0 = λ z. Served D Q₂ (node r cs) z in
                subst P (sym new.1) (elim o.served [ inl i ↦ absurd (b.nothing i.0 y i.1) | inr v ↦ (v.0, v.1, no_worse_trans laws D v.0 c (node r cs) v.2 new.0) ])
          ]

  pub begin_skip : (S Q : Der D.Rule → ℕ → Type 0) (Done Done' : Der D.Rule → Type 0)
      → ((r : D.Rule) (cs : Ders D.Rule) → Done' (node r cs) → Keyed D e (node r cs) (D.concl r) → Done (node r cs)) → Beginning D e S Q Done → Beginning D e S Q Done'
  begin_skip S Q Done Done' less b = record { nothing = b.nothing; agenda = b.agenda; single = b.single; offered = λ r cs h k. b.offered r cs (less r cs h k) k }

  -- under another name
  pub begin_same : (S S' Q : Der D.Rule → ℕ → Type 0) (Done : Der D.Rule → Type 0) → ((d : Der D.Rule) (x : ℕ) → S' d x → ⊥) → Beginning D e S Q Done → Beginning D e S' Q Done
  begin_same S S' Q Done nothing b = record {
    nothing = nothing;
    agenda = λ d x h. let k = b.agenda d x h in (built_more D S S' (λ c y g. absurd (b.nothing c y g)) d x k.0, k.1);
    single = b.single;
    offered = b.offered;
  }

  -- ---- in a turn
  module _ (S Q S' : Der D.Rule → ℕ → Type 0) (s : Der D.Rule) (x : ℕ) (Done Done' : Der D.Rule → Type 0) where
    -- the settled entries under another name
    pub turning_same : (S'' Q' : Der D.Rule → ℕ → Type 0) → ((d : Der D.Rule) (y : ℕ) → S' d y → S'' d y) → ((d : Der D.Rule) (y : ℕ) → S'' d y → S' d y) → Turning D e S Q S' Q' s x Done → Turning D e S Q S'' Q' s x Done
    turning_same S'' Q' to from t = record {
      taken = t.taken;
      stays = λ d y h. to d y (t.stays d y h);
      settles = to s x t.settles;
      no_other = λ d y h. t.no_other d y (from d y h);
      agenda = λ d y h. elim (t.agenda d y h) [ inl old ↦ inl old | inr new ↦ inr (built_more D S' S'' to d y new.0, new.1, new.2) ];
      fresh = λ c d y h. t.fresh c d y (from c y h);
      single = t.single;
      kept = t.kept;
      offered = λ r cs h k. elim (t.offered r cs h k) [ inl i ↦ inl (i.0, to i.0 (D.concl r) i.1) | inr v ↦ inr v ];
    }

    -- what has no key need not be offered
    pub skip : (Q' : Der D.Rule → ℕ → Type 0) → ((r : D.Rule) (cs : Ders D.Rule) → Done' (node r cs) → Keyed D e (node r cs) (D.concl r) → Done (node r cs)) → Turning D e S Q S' Q' s x Done → Turning D e S Q S' Q' s x Done'
    skip Q' less t = record {
      taken = t.taken;
      stays = t.stays;
      settles = t.settles;
      no_other = t.no_other;
      agenda = t.agenda;
      fresh = t.fresh;
      single = t.single;
      kept = t.kept;
      offered = λ r cs h k. t.offered r cs (less r cs h k) k;
    }

    -- one offer more
    pub offer : (Q₁ Q₂ : Der D.Rule → ℕ → Type 0) (c : Der D.Rule) (y : ℕ) → Built D S' c y → Uses D x c → Keyed D e c y → Offered D S' Q₁ Q₂ c y
        → ((r : D.Rule) (cs : Ders D.Rule) → Done' (node r cs) → Done (node r cs) ⊎ (NoWorse D c (node r cs) × (D.concl r ≡ y))) → Turning D e S Q S' Q₁ s x Done → Turning D e S Q S' Q₂ s x Done'
    offer Q₁ Q₂ c y built uses keyed o more-done t = record {
      taken = t.taken;
      stays = t.stays;
      settles = t.settles;
      no_other = t.no_other;
      agenda = agenda';
      fresh = fresh';
      single = o.single;
      kept = λ d z h. elim (t.kept d z h) [ inl p ↦ inl p | inr v ↦ inr (served_on Q₁ Q₂ o.kept d z v) ];
      offered = offered';
    }
      where
        P : Der D.Rule → ℕ → Type 0
        P d z = Built D S' d z × Uses D x d × Keyed D e d z

        agenda' : (d : Der D.Rule) (z : ℕ) → Q₂ d z → Q d z ⊎ (Built D S' d z × Uses D x d × Keyed D e d z)
        agenda' d z h = elim (o.only d z h) [ inl old ↦ t.agenda d z old | inr new ↦ inr (subst₂ P (sym new.0) (sym new.1) (built, uses, keyed)) ]

        fresh' : (b d : Der D.Rule) (z : ℕ) → S' b z → Q₂ d z → ⊥
        fresh' b d z h g = elim (o.only d z g) [ inl old ↦ t.fresh b d z h old | inr new ↦ new.2 (b, subst (S' b) new.1 h) ]

        offered' : (r : D.Rule) (cs : Ders D.Rule) → Done' (node r cs) → Keyed D e (node r cs) (D.concl r) → Item S' (D.concl r) ⊎ Served D Q₂ (node r cs) (D.concl r)
        offered' r cs h k =
            elim (more-done r cs h) [
              | inl old ↦ elim (t.offered r cs old k) [ inl i ↦ inl i | inr v ↦ inr (served_on Q₁ Q₂ o.kept (node r cs) (D.concl r) v) ]
              | inr new ↦
                  let P : ℕ → Type 0 = λ z. Item S' z ⊎ Served D Q₂ (node r cs) z in
                  subst P (sym new.1) (elim o.served [ inl i ↦ inl i | inr v ↦ inr (v.0, v.1, no_worse_trans laws D v.0 c (node r cs) v.2 new.0) ])
            ]

  -- ---- a chart
  module _ (st : ℕ → Stage) (Rec : Der D.Rule → ℕ → Type 0) (one : Single st Rec) where
    -- the turn begins: x is settled, and what is recorded stays
    pub settle : (st' : ℕ → Stage) (Rec' : Der D.Rule → ℕ → Type 0) (s : Der D.Rule) (x : ℕ) (Done : Der D.Rule → Type 0) → st x ≡ is_queued → Rec s x → st' x ≡ is_settled → ((y : ℕ) → (y ≡ x → ⊥) → st' y ≡ st y) → Same st Rec Rec' (λ y. ⊥)
        → ((d : Der D.Rule) (y : ℕ) → st y ≡ is_queued → Rec d y → NotAfter A (key D e s x) (key D e d y)) → ((d : Der D.Rule) → Done d → ⊥)
        → Turning D e (Settled st Rec) (Queued st Rec) (Settled st' Rec') (Queued st' Rec') s x Done
    settle st' Rec' s x Done was here now others same least none_done = record {
      taken = record { entry = (was, here); least = λ d y h. least d y h.0 h.1 };
      stays = stays';
      settles = (now, same.to s x (queued_there was) (λ f. f) here);
      no_other = no_other';
      agenda = λ d y h. inl (back d y h);
      fresh = λ c d y h g. not_both g.0 h.0;
      single = λ c d y h g. let k = back c y h in let l = back d y g in one c d y (queued_there k.0) k.1 l.1;
      kept = kept';
      offered = λ r cs h. absurd (none_done (node r cs) h);
    }
      where
        stays' : (d : Der D.Rule) (y : ℕ) → Settled st Rec d y → Settled st' Rec' d y
        stays' d y h = (others y (λ p. not_both was (ap st (sym p) ∙ h.0)) ∙ h.0, same.to d y (settled_there h.0) (λ f. f) h.1)

        no_other' : (d : Der D.Rule) (y : ℕ) → Settled st' Rec' d y → Settled st Rec d y ⊎ ((d ≡ s) × (y ≡ x))
        no_other' d y h =
            elim (ℕ_discrete y x) [
              | yes p ↦
                  let there : Rec' d x = subst (Rec' d) p h.1 in
                  inr (one d s x (queued_there was) (same.from d x (queued_there was) (λ f. f) there) here, p)
              | no n ↦
                  let q : st y ≡ is_settled = sym (others y n) ∙ h.0 in
                  inl (q, same.from d y (settled_there q) (λ f. f) h.1)
            ]

        back : (d : Der D.Rule) (y : ℕ) → Queued st' Rec' d y → Queued st Rec d y
        back d y h =
            let q : st y ≡ is_queued = sym (others y (λ p. not_both (ap st' (sym p) ∙ h.0) now)) ∙ h.0 in
            (q, same.from d y (queued_there q) (λ f. f) h.1)

        kept' : (d : Der D.Rule) (y : ℕ) → Queued st Rec d y → (y ≡ x) ⊎ Served D (Queued st' Rec') d y
        kept' d y h =
            elim (ℕ_discrete y x) [
              | yes p ↦ inl p
              | no n ↦ inr (d, (others y n ∙ h.0, same.to d y (queued_there h.0) (λ f. f) h.1), no_worse_refl laws D d)
            ]

    -- nothing is written: y is settled, or has a record that is no worse
    pub passed : (b c : Der D.Rule) (y : ℕ) → Rec b y → (st y ≡ is_settled) ⊎ ((st y ≡ is_queued) × NoWorse D b c) → Offered D (Settled st Rec) (Queued st Rec) (Queued st Rec) c y
    passed b c y there h = record {
      served = elim h [ inl settled ↦ inl (b, (settled, there)) | inr q ↦ inr (b, (q.0, there), q.1) ];
      kept = λ d z q. (d, q, no_worse_refl laws D d);
      only = λ d z q. inl q;
      single = λ a d z p q. one a d z (queued_there p.0) p.1 q.1;
    }

    -- c is written at y, which is not settled
    module _ (st' : ℕ → Stage) (Rec' : Der D.Rule → ℕ → Type 0) (c : Der D.Rule) (y : ℕ) (out : st y ≡ is_settled → ⊥) (now : st' y ≡ is_queued) (here : Rec' c y)
        (others : (z : ℕ) → (z ≡ y → ⊥) → st' z ≡ st z) (same : Same st Rec Rec' (λ z. z ≡ y)) (one' : Single st' Rec') where
      pub put : ((d : Der D.Rule) → st y ≡ is_queued → Rec d y → NoWorse D c d) → Offered D (Settled st Rec) (Queued st Rec) (Queued st' Rec') c y
      put better = record {
        served = inr (c, (now, here), no_worse_refl laws D c);
        kept = kept';
        only = only';
        single = λ b d z p q. one' b d z (queued_there p.0) p.1 q.1;
      }
        where
          kept' : (d : Der D.Rule) (z : ℕ) → Queued st Rec d z → Served D (Queued st' Rec') d z
          kept' d z h =
              elim (ℕ_discrete z y) [
                | yes p ↦
                    let P : ℕ → Type 0 = λ u. Rec' c u in
                    (c, (ap st' p ∙ now, subst P (sym p) here), better d (ap st (sym p) ∙ h.0) (subst (Rec d) p h.1))
                | no n ↦ (d, (others z n ∙ h.0, same.to d z (queued_there h.0) n h.1), no_worse_refl laws D d)
              ]

          only' : (d : Der D.Rule) (z : ℕ) → Queued st' Rec' d z → Queued st Rec d z ⊎ ((d ≡ c) × (z ≡ y) × (Item (Settled st Rec) y → ⊥))
          only' d z h =
              elim (ℕ_discrete z y) [
                | yes p ↦ inr (one' d c y (queued_there now) (subst (Rec' d) p h.1) here, p, λ i. out i.1.0)
                | no n ↦
                    let q : st z ≡ is_queued = sym (others z n) ∙ h.0 in
                    inl (q, same.from d z (queued_there q) n h.1)
              ]

      -- and nothing that is settled changes
      pub put_keeps : (d : Der D.Rule) (z : ℕ) → Settled st Rec d z → Settled st' Rec' d z
      put_keeps d z h =
          let n : z ≡ y → ⊥ = λ p. out (ap st (sym p) ∙ h.0) in
          (others z n ∙ h.0, same.to d z (settled_there h.0) n h.1)

      pub put_adds_none : (d : Der D.Rule) (z : ℕ) → Settled st' Rec' d z → Settled st Rec d z
      put_adds_none d z h =
          let n : z ≡ y → ⊥ = λ p. not_both (ap st' p ∙ now) h.0 in
          let q : st z ≡ is_settled = sym (others z n) ∙ h.0 in
          (q, same.from d z (settled_there q) n h.1)
