-- What an offer leaves. Assumes nothing.
use Rattle.std.proofs.Common.{◌≡◌, ℕ, ◌<◌, Bool, true, false, List, sym, refl, ap, ◌∙◌, subst, inl, inr}
use Rattle.std.proofs.lemmas.Bool.{cases_eq}
use Rattle.std.specs.List.{ContainsAt as Has}
use Rattle.agenda.specs.Orders.{Ordered}
use Rattle.agenda.specs.Places.{Placed}
use Rattle.agenda.specs.Agendas.{Bounded, Holding, Pushed, Improves, Offered}
use Rattle.agenda.proofs.Members.{one_entry}

module _ {X : Type 0} (lt : X → X → Bool) (order : Ordered lt) (ix : X → ℕ) (e : X) (xs ys : List X) where
  itself : (x : X) (b : Bool) → lt x x ≡ b → lt x x ≡ false
  itself x true h = order.one_way x x h
  itself x false h = h

  pub by_improve : (slots : List ℕ) → Placed ix xs slots → (r : Bool) → ((x : X) × Holding ix xs (ix e) x) → Improves lt ix e xs ys r → Offered lt ix e xs ys
  by_improve slots placed true h t = record {
    found = (e, t.new, refl, itself e _ refl);
    kept = t.kept;
    covered = λ x m. elim (cases_eq (ix x) (ix e)) [
      | inl z ↦
          let same : x ≡ t.old = one_entry ix xs slots placed x t.old m t.member (z ∙ sym t.same) in
          (e, t.new, sym z, ap (λ y. lt y e) same ∙ order.one_way e t.old t.before)
      | inr ne ↦ (x, t.kept x m ne, refl, itself x _ refl)
    ];
    only = λ x m. elim (t.only x m) [ inl z ↦ inl z | inr p ↦ inr p.0 ];
  }
  by_improve slots placed false h t = record {
    found = (h.0, subst (λ l. Has l h.0) (sym t.0) h.1.0, h.1.1, t.1 h.0 h.1.0 h.1.1);
    kept = λ x m other. subst (λ l. Has l x) (sym t.0) m;
    covered = λ x m. (x, subst (λ l. Has l x) (sym t.0) m, refl, itself x _ refl);
    only = λ x m. inr (subst (λ l. Has l x) t.0 m);
  }

  pub by_push : Pushed e xs ys → Offered lt ix e xs ys
  by_push t = record {
    found = (e, t.new, refl, itself e _ refl);
    kept = λ x m other. t.kept x m;
    covered = λ x m. (x, t.kept x m, refl, itself x _ refl);
    only = t.only;
  }

  -- what bounds the indices now bounded them before
  pub bounded_before : Offered lt ix e xs ys → (n : ℕ) → Bounded ix ys n → Bounded ix xs n
  bounded_before t n below x m = let y = t.covered x m in subst (λ i. i < n) y.2 (below y.0 y.1)
