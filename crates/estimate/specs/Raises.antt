-- What raises a row, and that the larger of two estimates keeps the laws. Assumes nothing.
use Rattle.std.specs.Prelude.{◌≡◌, ℕ, List, get_or, slice_index_or, refl}
use Rattle.std.proofs.Common.{sym, ap, subst, ◌∙◌}
use Rattle.weight.specs.Algebra.{Algebra, Lawful, Le, larger}
use Rattle.weight.proofs.Orders.{le_trans, le_plus, larger_least, larger_assoc, larger_keeps, first_le_larger, second_le_larger}
use Rattle.grammar.specs.Grammars.{GrammarModel, production}
use Rattle.estimate.specs.Estimates.{Raised, Sound, together}

module _ {A : Algebra} (laws : Lawful A) {W : Type 0} (exact : W → A.Exact) (n : ℕ) where
  pub raised_not : (w : W) → exact w ≡ A.none → (xs : List W) → Raised A exact n (λ _. w) xs xs
  raised_not w e xs = record { each = λ c d h. sym (larger_least laws exact (slice_index_or xs c d) w e); rest = refl }

  pub raised_twice : (f g : ℕ → W) (xs ys zs : List W) → Raised A exact n f xs ys → Raised A exact n g ys zs → Raised A exact n (λ c. larger A exact (f c) (g c)) xs zs
  raised_twice f g xs ys zs p q = record {
    each = λ c d h. q.each c d h ∙ ap (λ v. larger A exact v (g c)) (p.each c d h) ∙ larger_assoc laws exact (slice_index_or xs c d) (f c) (g c);
    rest = q.rest ∙ p.rest;
  }

pub larger_sound : {A : Algebra} (laws : Lawful A) {W : Type 0} (exact : W → A.Exact) (m : GrammarModel) (f g : ℕ → W)
    → Sound A m (λ c. exact (f c)) → Sound A m (λ c. exact (g c)) → Sound A m (λ c. exact (larger A exact (f c) (g c)))
larger_sound {A} laws {W} exact m f g sf sg = record {
  start = larger_keeps laws exact (λ w. exact w ≡ A.none) (f m.start) (g m.start) sf.start sg.start;
  consistent = λ p i ws known within fellows.
      let r = production m p in
      let b = get_or r.arguments i 0 in
      let w = A.taken r.weight in
      let u = together A ws in
      let top = exact (larger A exact (f r.category) (g r.category)) in
      let lift : (v : A.Exact) → Le A v top → Le A (A.plus (A.plus v w) u) (A.plus (A.plus top w) u) =
      λ v h. le_plus laws (A.plus v w) (A.plus top w) u (le_plus laws v top w h) in
      let bound = A.plus (A.plus top w) u in
      larger_keeps laws exact (λ v. Le A (exact v) bound) (f b) (g b)
      (le_trans laws (exact (f b)) (A.plus (A.plus (exact (f r.category)) w) u) bound (sf.consistent p i ws known within fellows) (lift (exact (f r.category)) (first_le_larger laws exact (f r.category) (g r.category))))
      (le_trans laws (exact (g b)) (A.plus (A.plus (exact (g r.category)) w) u) bound (sg.consistent p i ws known within fellows) (lift (exact (g r.category)) (second_le_larger laws exact (f r.category) (g r.category))));
}

-- what holds none everywhere is an estimate
pub none_sound : {A : Algebra} (laws : Lawful A) {W : Type 0} (exact : W → A.Exact) (m : GrammarModel) (w : W) → exact w ≡ A.none → Sound A m (λ _. exact w)
none_sound {A} laws exact m w e = record {
  start = e;
  consistent = λ p i ws known within fellows.
      let bound = A.plus (A.plus (exact w) (A.taken (production m p).weight)) (together A ws) in
      subst (λ (v : A.Exact). Le A v bound) (sym e) (laws.lowest bound);
}
