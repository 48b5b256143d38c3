-- The order of entries, by the laws of `Ord` and that entries of one rank are one. Assumes nothing.
use Rattle.std.proofs.Common.{◌≡◌, true, false, Option, Ordering, Less, Equal, Greater, is_lt, is_gt, sym, refl, ap, ◌∙◌}
use Rattle.std.proofs.lemmas.Bool.{both_ways}
use Rattle.std.specs.Ordering.{ordering_reverse, partial_lt, is_some_and}
use Rattle.std.specs.Cmp.{IsTotalOrder, Agrees}
use Rattle.std.proofs.lemmas.Cmp.{upto}
use Rattle.agenda.specs.Orders.{Ordered, before}

reversed : (r : Ordering) → is_lt (ordering_reverse r) ≡ is_gt r
reversed Less = refl
reversed Equal = refl
reversed Greater = refl

one_way : (r : Ordering) → is_lt r ≡ true → is_gt r ≡ false
one_way Less h = refl
one_way Equal h = refl
one_way Greater h = sym h

level : (r : Ordering) → is_lt r ≡ false → is_gt r ≡ false → r ≡ Equal
level Less h k = absurd (both_ways true h refl)
level Equal h k = refl
level Greater h k = absurd (both_ways true k refl)

module _ {X : Type 0} {cmp : X → X → Ordering} where
  -- what `<` answers
  pub less : {C : X → X → Option Ordering} → Agrees C cmp → (x y : X) → partial_lt C x y ≡ before cmp x y
  less a x y = ap (is_some_and is_lt) (a x y)

  module _ (total : IsTotalOrder cmp) (alike : (x y : X) → cmp x y ≡ Equal → x ≡ y) where
    turned : (x y : X) → is_lt (cmp x y) ≡ is_gt (cmp y x)
    turned x y = ap is_lt (total.antisymm x y) ∙ reversed (cmp y x)

    pub ordered : Ordered (before cmp)
    ordered = record {
      one_way = λ x y h. turned y x ∙ one_way (cmp x y) h;
      chain = λ x y z h k. turned x z ∙ upto total z y x (sym (turned y z) ∙ k) (sym (turned x y) ∙ h);
      same = λ x y h k. alike x y (level (cmp x y) h (sym (turned y x) ∙ k));
    }
