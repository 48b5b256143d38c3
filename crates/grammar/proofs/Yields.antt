-- Every string of a yield has a token, and there is one for each constituent.
use Rattle.std.proofs.Common.{◌≡◌, ℕ, zero, suc, ◌-◌, ◌<◌, ◌≤◌, List, [], ◌∷◌, map, length, get_or, refl, ap, ◌∙◌, arith, length-append}
use Rattle.std.proofs.lemmas.List.{length-map}
use Rattle.grammar.specs.declared.symbol.Symbol.TheVariants as symbol
use Rattle.grammar.specs.Grammars.{Symbol, ProductionModel, GrammarModel, production, no_production, dimension}
use Rattle.grammar.specs.Formed.{Each, SymbolFormed, ConstituentFormed, ProductionFormed, WellFormed}
use Rattle.grammar.specs.Trees.{Tree, Forest, node, empty, more, TreeIn, TreesIn, yield, yields, piece, spell}
use Rattle.grammar.proofs.Each.{each_at}

-- no string is empty
abbrev pub Filled : List (List ℕ) → Type 0
Filled y = Each (λ s. 1 ≤ length s) y

pub production_at : (g : GrammarModel) → WellFormed g → (p : ℕ) → p < length g.productions → ProductionFormed g.dimensions (production g p)
production_at g well p h = each_at (ProductionFormed g.dimensions) g.productions p no_production well.productions_formed h

-- yields that trees of these categories can have
abbrev pub Given : List ℕ → List ℕ → List (List (List ℕ)) → Type 0
Given dimensions [] [] = Unit {0}
Given dimensions [] (y ∷ ys) = ⊥
Given dimensions (c ∷ cs) [] = ⊥
Given dimensions (c ∷ cs) (y ∷ ys) = ((length y ≡ dimension dimensions c) × Filled y) × Given dimensions cs ys

module _ (dimensions : List ℕ) where
  pub given_length : (cs : List ℕ) (ys : List (List (List ℕ))) → Given dimensions cs ys → length ys ≡ length cs
  given_length [] [] h = refl
  given_length [] (y ∷ ys) h = absurd h
  given_length (c ∷ cs) [] h = absurd h
  given_length (c ∷ cs) (y ∷ ys) h = ap suc (given_length cs ys h.1)

  -- argument k has as many strings as its category's dimension, and past the arguments there are none
  pub given_each : (cs : List ℕ) (ys : List (List (List ℕ))) → Given dimensions cs ys → (k : ℕ) → k < length cs
      → length (get_or ys k []) ≡ dimension dimensions (get_or cs k 0)
  given_each [] ys h k l = absurd (omega arith)
  given_each (c ∷ cs) [] h k l = absurd h
  given_each (c ∷ cs) (y ∷ ys) h zero l = h.0.0
  given_each (c ∷ cs) (y ∷ ys) h (suc k) l = given_each cs ys h.1 k (omega arith)

  given_filled : (cs : List ℕ) (ys : List (List (List ℕ))) → Given dimensions cs ys → (k j : ℕ) → k < length cs → j < dimension dimensions (get_or cs k 0)
      → 1 ≤ length (get_or (get_or ys k []) j [])
  given_filled [] ys h k j l m = absurd (omega arith)
  given_filled (c ∷ cs) [] h k j l m = absurd h
  given_filled (c ∷ cs) (y ∷ ys) h zero j l m = each_at (λ s. 1 ≤ length s) y j [] h.0.1 (omega (arith, h.0.0))
  given_filled (c ∷ cs) (y ∷ ys) h (suc k) j l m = given_filled cs ys h.1 k j (omega arith) m

  module _ (cs : List ℕ) (ys : List (List (List ℕ))) (given : Given dimensions cs ys) where
    piece_filled : (s : Symbol) → SymbolFormed dimensions cs s → 1 ≤ length (piece ys s)
    piece_filled (symbol.Token t) f = omega arith
    piece_filled (symbol.Part k l) f =
        given_filled cs ys given (k - 1) (l - 1) (omega (arith, f.argument_least, f.argument_most)) (omega (arith, f.constituent_least, f.constituent_most))

    spell_filled : (ss : List Symbol) → 1 ≤ length ss → Each (SymbolFormed dimensions cs) ss → 1 ≤ length (spell ys ss)
    spell_filled [] h f = absurd (omega arith)
    spell_filled (s ∷ ss) h f = omega (arith, piece_filled s f.0, length-append (piece ys s) (spell ys ss))

    pub all_filled : (rs : List (List Symbol)) → Each (ConstituentFormed dimensions cs) rs → Filled (map (spell ys) rs)
    all_filled [] f = tt
    all_filled (r ∷ rs) f = (spell_filled r f.0.symbols_least f.0.symbols_formed, all_filled rs f.1)

  -- what a production makes of such yields is such a yield of its category
  pub made_many : (r : ProductionModel) → ProductionFormed dimensions r → (ys : List (List (List ℕ)))
      → length (map (spell ys) r.constituents) ≡ dimension dimensions r.category
  made_many r f ys = length-map r.constituents (spell ys) ∙ f.constituents_many

  pub made_filled : (r : ProductionModel) → ProductionFormed dimensions r → (ys : List (List (List ℕ))) → Given dimensions r.arguments ys
      → Filled (map (spell ys) r.constituents)
  made_filled r f ys h = all_filled r.arguments ys h r.constituents f.constituents_formed

module _ (g : GrammarModel) (well : WellFormed g) where
  pub yield_many : (c : ℕ) (t : Tree) → TreeIn g c t → length (yield g t) ≡ dimension g.dimensions c
  yield_many c (node p ts) w = made_many g.dimensions (production g p) (production_at g well p w.0) (yields g ts) ∙ ap (dimension g.dimensions) w.1

  mutual
    pub yield_filled : (c : ℕ) (t : Tree) → TreeIn g c t → Filled (yield g t)
    yield_filled c (node p ts) w =
        made_filled g.dimensions (production g p) (production_at g well p w.0) (yields g ts) (yields_given (production g p).arguments ts w.2)

    pub yields_given : (cs : List ℕ) (ts : Forest) → TreesIn g cs ts → Given g.dimensions cs (yields g ts)
    yields_given [] empty w = tt
    yields_given [] (more t ts) w = absurd w
    yields_given (c ∷ cs) empty w = absurd w
    yields_given (c ∷ cs) (more t ts) w = ((yield_many c t w.0, yield_filled c t w.0), yields_given cs ts w.1)
