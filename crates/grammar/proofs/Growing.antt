-- A production that names every constituent of its arguments yields at least their tokens.
use Rattle.std.proofs.Common.{◌≡◌, ℕ, zero, suc, ◌+◌, ◌-◌, ◌*◌, ◌/◌, ◌%◌, ◌<◌, ◌≤◌, ◌≢◌, ◌⊎◌, List, [], ◌∷◌, map, length, get_or, sym, refl, ap, ◌∙◌, subst, ap₂, inl, inr, arith, length-append}
use native.Mathlib.Decide.{ℕ_discrete, dec_lt}
use Rattle.std.proofs.lemmas.List.{get_or_past}
use Rattle.grammar.specs.declared.symbol.Symbol.TheVariants as symbol
use Rattle.grammar.specs.Grammars.{Symbol, ProductionModel, GrammarModel, production, dimension}
use Rattle.grammar.specs.Formed.{Each, Some, OneOrTwo, Named, PartFormed, SymbolFormed, ConstituentFormed, ProductionFormed, WellFormed}
use Rattle.grammar.specs.Trees.{Forest, node, TreeIn, yield, yields, spell, counted, tokens_in, tokens_in_all}
use Rattle.grammar.proofs.Each.{each_at}
use Rattle.grammar.proofs.Yields.{Given, given_length, given_each, production_at, yields_given}

-- constituent l of argument k, as one number
abbrev slot : ℕ → ℕ → ℕ
slot k l = (k - 1) * 2 + (l - 1)

-- what the parts among the symbols weigh together
weigh : (ℕ → ℕ) → List Symbol → ℕ
weigh f [] = 0
weigh f (symbol.Token t ∷ ss) = weigh f ss
weigh f (symbol.Part k l ∷ ss) = f (slot k l) + weigh f ss

weighs : (ℕ → ℕ) → List (List Symbol) → ℕ
weighs f [] = 0
weighs f (c ∷ cs) = weigh f c + weighs f cs

below : (ℕ → ℕ) → ℕ → ℕ
below f zero = 0
below f (suc n) = below f n + f n

token_no_part : (t k l : ℕ) → symbol.Token t ≡ symbol.Part k l → ⊥
token_no_part t k l e = let z : ◌≡◌ {A = ℕ} 0 1 = cc in omega arith

module _ (f g : ℕ → ℕ) (lower : (i : ℕ) → g i ≤ f i) where
  weigh_lower : (ss : List Symbol) → weigh g ss ≤ weigh f ss
  unfolding weigh
  weigh_lower [] = omega arith
  weigh_lower (symbol.Token t ∷ ss) = weigh_lower ss
  weigh_lower (symbol.Part k l ∷ ss) = omega (arith, lower (slot k l), weigh_lower ss)

  weighs_lower : (cs : List (List Symbol)) → weighs g cs ≤ weighs f cs
  unfolding weighs
  weighs_lower [] = omega arith
  weighs_lower (c ∷ cs) = omega (arith, weigh_lower c, weighs_lower cs)

  module _ (k l v : ℕ) (gain : g (slot k l) + v ≤ f (slot k l)) where
    weigh_gain : (ss : List Symbol) → Some (λ s. s ≡ symbol.Part k l) ss → weigh g ss + v ≤ weigh f ss
    unfolding weigh
    weigh_gain [] h = absurd h
    weigh_gain (symbol.Token t ∷ ss) (inl h) = absurd (token_no_part t k l h)
    weigh_gain (symbol.Token t ∷ ss) (inr h) = weigh_gain ss h
    weigh_gain (symbol.Part i j ∷ ss) (inl h) =
        let p : i ≡ k = cc in
        let q : j ≡ l = cc in
        let e : slot k l ≡ slot i j = ap₂ slot (sym p) (sym q) in
        let here : g (slot i j) + v ≤ f (slot i j) = subst (λ (n : ℕ). g n + v ≤ f n) e gain in
        omega (arith, weigh_lower ss)
    weigh_gain (symbol.Part i j ∷ ss) (inr h) = omega (arith, lower (slot i j), weigh_gain ss h)

    weighs_gain : (cs : List (List Symbol)) → Named k l cs → weighs g cs + v ≤ weighs f cs
    unfolding weighs
    weighs_gain [] h = absurd h
    weighs_gain (c ∷ cs) (inl h) = omega (arith, weigh_gain c h, weighs_lower cs)
    weighs_gain (c ∷ cs) (inr h) = omega (arith, weigh_lower c, weighs_gain cs h)

-- f, but nothing at n
without_by : ℕ → {P : Type 0} → Dec P → ℕ
without_by x (yes p) = 0
without_by x (no p) = x

without : (ℕ → ℕ) → ℕ → ℕ → ℕ
without f n i = without_by (f i) (ℕ_discrete i n)

without_lower : (f : ℕ → ℕ) (n i : ℕ) → without f n i ≤ f i
unfolding without without_by
without_lower f n i = go (ℕ_discrete i n)
  where
    go : (d : Dec (i ≡ n)) → without_by (f i) d ≤ f i
    go (yes p) = omega arith
    go (no p) = omega arith

without_here : (f : ℕ → ℕ) (n : ℕ) → without f n n ≡ 0
unfolding without without_by
without_here f n = go (ℕ_discrete n n)
  where
    go : (d : Dec (n ≡ n)) → without_by (f n) d ≡ 0
    go (yes p) = refl
    go (no p) = absurd (p refl)

without_other : (f : ℕ → ℕ) (n i : ℕ) → i ≢ n → without f n i ≡ f i
unfolding without without_by
without_other f n i h = go (ℕ_discrete i n)
  where
    go : (d : Dec (i ≡ n)) → without_by (f i) d ≡ f i
    go (yes p) = absurd (h p)
    go (no p) = refl

below_without : (f : ℕ → ℕ) (n k : ℕ) → k ≤ n → below (without f n) k ≡ below f k
unfolding below
below_without f n zero h = refl
below_without f n (suc k) h = ap₂ ◌+◌ (below_without f n k (omega arith)) (without_other f n k (omega arith))

abbrev Slotted : ℕ → List (List Symbol) → Type 0
Slotted i cs = (k l : ℕ) × (slot k l ≡ i) × Named k l cs

-- numbers whose slots are all named weigh no more than what names them
below_weighs : (cs : List (List Symbol)) (n : ℕ) (f : ℕ → ℕ) → ((i : ℕ) → i < n → (f i ≡ 0) ⊎ Slotted i cs) → below f n ≤ weighs f cs
unfolding below
below_weighs cs zero f h = omega arith
below_weighs cs (suc n) f h =
    let g : ℕ → ℕ = without f n in
    let rest : below g n ≤ weighs g cs = below_weighs cs n g (λ i lt. elim (h i (omega arith)) [ inl z ↦ inl (without_other f n i (omega arith) ∙ z) | inr s ↦ inr s ]) in
    let same : below g n ≡ below f n = below_without f n n (omega arith) in
    let low : weighs g cs ≤ weighs f cs = weighs_lower f g (without_lower f n) cs in
    elim (h n (omega arith)) [
      | inl z ↦ omega (arith, z)
      | inr s ↦
          let here : g n + f n ≤ f n = omega (arith, without_here f n) in
          let there : g (slot s.0 s.1) + f n ≤ f (slot s.0 s.1) = subst (λ (x : ℕ). g x + f n ≤ f x) (sym s.2) here in
          omega (arith, weighs_gain f g (without_lower f n) s.0 s.1 (f n) there cs s.3)
    ]

-- how long the string of a slot is
abbrev string_at : List (List (List ℕ)) → ℕ → List ℕ
string_at ys i = get_or (get_or ys (i / 2) []) (i % 2) []

long_at : List (List (List ℕ)) → ℕ → ℕ
long_at ys i = length (string_at ys i)

-- at most two strings, at most three yields
two_strings : (y : List (List ℕ)) → length y ≤ 2 → tokens_in y ≡ length (get_or y 0 []) + length (get_or y 1 [])
two_strings [] h = refl
two_strings (a ∷ []) h = refl
two_strings (a ∷ b ∷ []) h = omega arith
two_strings (a ∷ b ∷ c ∷ y) h = absurd (omega arith)

three_yields : (ys : List (List (List ℕ))) → length ys ≤ 3 → tokens_in_all ys ≡ tokens_in (get_or ys 0 []) + tokens_in (get_or ys 1 []) + tokens_in (get_or ys 2 [])
three_yields [] h = refl
three_yields (a ∷ []) h = omega arith
three_yields (a ∷ b ∷ []) h = omega arith
three_yields (a ∷ b ∷ c ∷ []) h = omega arith
three_yields (a ∷ b ∷ c ∷ d ∷ ys) h = absurd (omega arith)

six_strings : (ys : List (List (List ℕ))) → length ys ≤ 3 → ((k : ℕ) → length (get_or ys k []) ≤ 2) → tokens_in_all ys ≡ below (long_at ys) 6
unfolding below long_at
six_strings ys h g = omega (arith, three_yields ys h, two_strings (get_or ys 0 []) (g 0), two_strings (get_or ys 1 []) (g 1), two_strings (get_or ys 2 []) (g 2))

module _ (dimensions : List ℕ) (low : Each OneOrTwo dimensions) (r : ProductionModel) (formed : ProductionFormed dimensions r) where
  small : (k : ℕ) → k < length r.arguments → dimension dimensions (get_or r.arguments k 0) ≤ 2
  small k h = (each_at OneOrTwo dimensions (get_or r.arguments k 0) 0 low (each_at (λ a. a < length dimensions) r.arguments k 0 formed.arguments_known h)).most

  module _ (ys : List (List (List ℕ))) where
    at_slot : (k l : ℕ) → PartFormed dimensions r.arguments k l → long_at ys (slot k l) ≡ length (counted (counted ys k []) l [])
    unfolding long_at
    at_slot k l n =
        let two : dimension dimensions (get_or r.arguments (k - 1) 0) ≤ 2 = small (k - 1) (omega (arith, n.argument_least, n.argument_most)) in
        let a : slot k l / 2 ≡ k - 1 = omega (arith, n.constituent_least, n.constituent_most) in
        let b : slot k l % 2 ≡ l - 1 = omega (arith, n.constituent_least, n.constituent_most) in
        ap₂ (λ u v. length (get_or (get_or ys u []) v [])) a b

    weigh_spell : (ss : List Symbol) → Each (SymbolFormed dimensions r.arguments) ss → weigh (long_at ys) ss ≤ length (spell ys ss)
    unfolding weigh
    weigh_spell [] ok = omega arith
    weigh_spell (symbol.Token t ∷ ss) ok = omega (arith, weigh_spell ss ok.1)
    weigh_spell (symbol.Part k l ∷ ss) ok = omega (arith, weigh_spell ss ok.1, at_slot k l ok.0, length-append (counted (counted ys k []) l []) (spell ys ss))

    weighs_spell : (cs : List (List Symbol)) → Each (ConstituentFormed dimensions r.arguments) cs → weighs (long_at ys) cs ≤ tokens_in (map (spell ys) cs)
    unfolding weighs
    weighs_spell [] ok = omega arith
    weighs_spell (c ∷ cs) ok = omega (arith, weigh_spell c ok.0.symbols_formed, weighs_spell cs ok.1)

    module _ (given : Given dimensions r.arguments ys) where
      -- each slot is named, or its string is empty
      entry : (i : ℕ) → (long_at ys i ≡ 0) ⊎ Slotted i r.constituents
      unfolding long_at
      entry i =
          elim (dec_lt (i / 2) (length r.arguments)) [
            | no g ↦
                let past : get_or ys (i / 2) [] ≡ [] = get_or_past ys (i / 2) [] (omega (arith, given_length dimensions r.arguments ys given)) in
                inl (ap (λ (y : List (List ℕ)). length (get_or y (i % 2) [])) past)
            | yes g ↦
                let many : length (get_or ys (i / 2) []) ≡ dimension dimensions (get_or r.arguments (i / 2) 0) = given_each dimensions r.arguments ys given (i / 2) g in
                elim (dec_lt (i % 2) (dimension dimensions (get_or r.arguments (i / 2) 0))) [
                  | no h ↦ inl (ap length (get_or_past (get_or ys (i / 2) []) (i % 2) [] (omega arith)))
                  | yes h ↦ inr (suc (i / 2), suc (i % 2), omega arith, formed.all_named (i / 2) (i % 2) g h)
                ]
          ]

      few : (k : ℕ) → length (get_or ys k []) ≤ 2
      few k =
          elim (dec_lt k (length r.arguments)) [
            | no g ↦ omega (arith, ap length (get_or_past ys k [] (omega (arith, given_length dimensions r.arguments ys given))))
            | yes g ↦ omega (arith, given_each dimensions r.arguments ys given k g, small k g)
          ]

      pub made_grows : tokens_in_all ys ≤ tokens_in (map (spell ys) r.constituents)
      made_grows =
          let sum : tokens_in_all ys ≡ below (long_at ys) 6 = six_strings ys (omega (arith, given_length dimensions r.arguments ys given, formed.arguments_most)) few in
          let held : below (long_at ys) 6 ≤ weighs (long_at ys) r.constituents = below_weighs r.constituents 6 (long_at ys) (λ i lt. entry i) in
          omega (arith, weighs_spell r.constituents formed.constituents_formed)

pub yield_grows : (g : GrammarModel) (c p : ℕ) (ts : Forest) → WellFormed g → TreeIn g c (node p ts) → tokens_in_all (yields g ts) ≤ tokens_in (yield g (node p ts))
yield_grows g c p ts well w =
    made_grows g.dimensions well.dimensions_formed (production g p) (production_at g well p w.0) (yields g ts)
    (yields_given g well (production g p).arguments ts w.2)
