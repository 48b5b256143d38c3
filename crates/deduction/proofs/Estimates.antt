-- Estimates that are consistent. Assumes nothing.
use Rattle.std.proofs.Common.{ℕ, zero, suc, List, [], ◌∷◌, get_or}
use Rattle.weight.specs.Algebra.{Algebra, Lawful, Le}
use Rattle.weight.proofs.Orders.{le_refl, le_trans, le_plus_right, le_plus_both, le_whole, le_first}
use Rattle.deduction.specs.Deduction.{System, Ders, none, more, omit, but, sum, Each, Derives, DerivesAll, cost, cost_all, Fits, Consistent, Floor, FloorConsistent}

module _ {A : Algebra} (laws : Lawful A) (D : System A) where
  -- no estimate at all
  pub consistent_none : Consistent D (λ x. A.none)
  consistent_none r ds h fits i l = laws.lowest (A.plus (A.plus A.none (D.price r)) (cost_all D (omit i ds)))

  -- parts fit where the whole fits
  pub parts_fit : (ds : Ders D.Rule) (xs : List ℕ) → Le A (cost_all D ds) A.ceiling → DerivesAll D ds xs → Each (λ d x. Derives D d x × Fits D d) ds xs
  parts_fit none [] fits h = tt
  parts_fit none (x ∷ xs) fits h = absurd h
  parts_fit (more d ds) [] fits h = absurd h
  parts_fit (more d ds) (x ∷ xs) fits h =
      let whole = A.plus (cost D d) (cost_all D ds) in
      ((h.0, le_trans laws (cost D d) whole A.ceiling (le_first laws (cost D d) (cost_all D ds)) fits), parts_fit ds xs (le_trans laws (cost_all D ds) whole A.ceiling (le_whole laws (cost D d) (cost_all D ds)) fits) h.1)

  module _ (e low : ℕ → A.Exact) (floor : Floor D low) where
    all_floor : (ds : Ders D.Rule) (xs : List ℕ) → Each (λ d x. Derives D d x × Fits D d) ds xs → Le A (sum A low xs) (cost_all D ds)
    all_floor none [] h = le_refl laws A.none
    all_floor none (x ∷ xs) h = absurd h
    all_floor (more d ds) [] h = absurd h
    all_floor (more d ds) (x ∷ xs) h = le_plus_both laws (low x) (cost D d) (sum A low xs) (cost_all D ds) (floor d x h.0.0 h.0.1) (all_floor ds xs h.1)

    but_floor : (i : ℕ) (ds : Ders D.Rule) (xs : List ℕ) → Each (λ d x. Derives D d x × Fits D d) ds xs → Le A (sum A low (but i xs)) (cost_all D (omit i ds))
    but_floor i none [] h = le_refl laws A.none
    but_floor i none (x ∷ xs) h = absurd h
    but_floor i (more d ds) [] h = absurd h
    but_floor zero (more d ds) (x ∷ xs) h = all_floor ds xs h.1
    but_floor (suc i) (more d ds) (x ∷ xs) h = le_plus_both laws (low x) (cost D d) (sum A low (but i xs)) (cost_all D (omit i ds)) (floor d x h.0.0 h.0.1) (but_floor i ds xs h.1)

    pub consistent_by : FloorConsistent D e low → Consistent D e
    consistent_by law r ds h fits i l =
        let w = D.price r in
        let outer = A.plus (e (D.concl r)) w in
        let all = parts_fit ds (D.prems r) (le_trans laws (cost_all D ds) (A.plus w (cost_all D ds)) A.ceiling (le_whole laws w (cost_all D ds)) fits) h in
        le_trans laws (e (get_or (D.prems r) i 0)) (A.plus outer (sum A low (but i (D.prems r)))) (A.plus outer (cost_all D (omit i ds)))
        (law r ds all i l)
        (le_plus_right laws outer (sum A low (but i (D.prems r))) (cost_all D (omit i ds)) (but_floor i ds (D.prems r) all))
