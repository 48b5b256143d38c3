use Rattle.std.proofs.Common.{ℕ, zero, suc, ◌<◌, ◌≤◌, List, [], ◌∷◌, map, length, get_or, refl, sym, subst, arith}
use Rattle.std.proofs.lemmas.Bool.{iff_false}
use Rattle.std.proofs.lemmas.List.{get_or-map, length-map}
use Rattle.grammar.specs.Grammars.{ProductionModel, no_production}
use Rattle.grammar.specs.declared.production.Production.{Production}
use Rattle.grammar.specs.Held.{production_model}
use Rattle.estimate.proofs.accepted.AcceptedGrammar.new.Goals as goal

-- a fact of each held production, and of each of the grammar
module _ (P : ProductionModel → Type 0) where
  abbrev Held : List Production → Type 0
  Held ps = (k : ℕ) (d : Production) → k < length ps → P (production_model (get_or ps k d))

  abbrev Known : List ProductionModel → Type 0
  Known qs = (k : ℕ) → k < length qs → P (get_or qs k no_production)

  known_of : (ps : List Production) → Held ps → Known (map production_model ps)
  known_of [] h k l = absurd (omega arith)
  known_of (p ∷ ps) h zero l = h 0 p (omega arith)
  known_of (p ∷ ps) h (suc k) l = known_of ps (λ j d l. h (suc j) d (omega arith)) k (omega arith)

  held_of : (ps : List Production) → Known (map production_model ps) → Held ps
  held_of ps h k d l = subst P (get_or-map production_model ps k d no_production l) (h k (rw length-map l))

pub invariant_of-result : goal.invariant_of-result
invariant_of-result g c = record {
  accepted =
      let P : ProductionModel → Type 0 = λ q. g.W.Weight.algebra.least ≤ q.weight in
      subst (Known P) c.productions.ensures (known_of P c.productions.result.now (c.if-takes_all.ensures.0 refl));
}

pub returns-else-takes_all : goal.returns-else-takes_all
returns-else-takes_all g c = λ accepted.
    let P : ProductionModel → Type 0 = λ q. g.W.Weight.algebra.least ≤ q.weight in
    iff_false c.takes_all.ensures c.if-takes_all.false (held_of P c.productions.result.now (subst (Known P) (sym c.productions.ensures) accepted))
