-- Derivations are ordered, keep their order under exchange, and come after their parts. Assumes nothing.
use Rattle.std.proofs.Common.{◌≡◌, ℕ, suc, ◌<◌, ◌⊎◌, List, [], ◌∷◌, ◌++◌, length, get_or, sym, refl, ap, ◌∙◌, subst, ap₂, inl, inr, append_assoc, append-nil, suc-le-suc, arith}
use Rattle.std.proofs.lemmas.Bool.{cases_order}
use Rattle.weight.specs.Algebra.{Algebra, Lawful, Le}
use Rattle.weight.proofs.Orders.{le_cases, lt_le_lt, le_trans, le_plus, le_plus_right, le_first}
use Rattle.deduction.specs.Deduction.{System, Priced, Labelled, Silent, Der, Ders, node, none, more, omit, Each, Sooner, Upto, Key, Before, NotAfter, Derives, DerivesAll, cost, cost_all, word, word_all, NoWorse, NoWorseAll, Fits, key, Keyed, Consistent}
use Rattle.deduction.proofs.Keys.{sooner_front, upto_refl, upto_le, upto_trans, upto_join, before_by_cost}

module _ {A : Algebra} (laws : Lawful A) (D : System A) where
  pub no_worse_refl : (d : Der D.Rule) → NoWorse D d d
  no_worse_refl d = upto_refl laws (cost D d) (word D d)

  pub no_worse_trans : (b c d : Der D.Rule) → NoWorse D b c → NoWorse D c d → NoWorse D b d
  no_worse_trans b c d = upto_trans laws (cost D b) (cost D c) (cost D d) (word D b) (word D c) (word D d)

  pub no_worse_le : (c d : Der D.Rule) → NoWorse D c d → Le A (cost D c) (cost D d)
  no_worse_le c d = upto_le laws (cost D c) (cost D d) (word D c) (word D d)

  -- ---- exchange
  exchange_all : (cs ds : Ders D.Rule) → NoWorseAll D cs ds → Upto A (cost_all D cs) (word_all D cs) (cost_all D ds) (word_all D ds)
  exchange_all none none h = upto_refl laws A.none []
  exchange_all none (more d ds) h = absurd h
  exchange_all (more c cs) none h = absurd h
  exchange_all (more c cs) (more d ds) h =
      upto_join laws (cost D c) (cost D d) (cost_all D cs) (cost_all D ds) (word D c) (word D d) (word_all D cs) (word_all D ds) h.0 (exchange_all cs ds h.1)

  -- no worse parts make no worse a whole
  pub exchange : (r : D.Rule) (cs ds : Ders D.Rule) → NoWorseAll D cs ds → NoWorse D (node r cs) (node r ds)
  exchange r cs ds h =
      upto_join laws (D.price r) (D.price r) (cost_all D cs) (cost_all D ds) (D.letters r) (D.letters r) (word_all D cs) (word_all D ds)
      (upto_refl laws (D.price r) (D.letters r))
      (exchange_all cs ds h)

  -- ---- of two words one is the sooner, or they are the same
  module _ (lab : Labelled D) where
    mutual
      word_order : (c : Der D.Rule) (x y : ℕ) (d : Der D.Rule) (r s : List ℕ) → Derives D c x → Derives D d y
          → ((word D c ≡ word D d) ⊎ (Sooner (word D c ++ r) (word D d ++ s) ⊎ Sooner (word D d ++ s) (word D c ++ r)))
      word_order (node p cs) x y (node q ds) r s hc hd =
          rw (lab.letter p) (rw (lab.letter q)
          (elim (cases_order (lab.label p) (lab.label q)) [
            | inl same ↦
                elim (word_order_all cs (D.prems p) (D.prems q) ds r s (lab.arity p q same) hc.1 hd.1) [
                  | inl w ↦ inl (cc)
                  | inr o ↦ elim o [ inl l ↦ inr (inl (inr (same, l))) | inr l ↦ inr (inr (inr (sym same, l))) ]
                ]
            | inr o ↦ elim o [ inl l ↦ inr (inl (inl l)) | inr l ↦ inr (inr (inl l)) ]
          ]))

      word_order_all : (cs : Ders D.Rule) (xs ys : List ℕ) (ds : Ders D.Rule) (r s : List ℕ) → length xs ≡ length ys → DerivesAll D cs xs → DerivesAll D ds ys
          → ((word_all D cs ≡ word_all D ds) ⊎ (Sooner (word_all D cs ++ r) (word_all D ds ++ s) ⊎ Sooner (word_all D ds ++ s) (word_all D cs ++ r)))
      word_order_all none [] [] none r s n hc hd = inl refl
      word_order_all none [] [] (more d ds) r s n hc hd = absurd hd
      word_order_all none [] (y ∷ ys) ds r s n hc hd = let z : ⊥ = omega arith in absurd z
      word_order_all none (x ∷ xs) ys ds r s n hc hd = absurd hc
      word_order_all (more c cs) [] ys ds r s n hc hd = absurd hc
      word_order_all (more c cs) (x ∷ xs) [] ds r s n hc hd = let z : ⊥ = omega arith in absurd z
      word_order_all (more c cs) (x ∷ xs) (y ∷ ys) none r s n hc hd = absurd hd
      word_order_all (more c cs) (x ∷ xs) (y ∷ ys) (more d ds) r s n hc hd =
          rw (append_assoc (word D c) (word_all D cs) r) (rw (append_assoc (word D d) (word_all D ds) s)
          (elim (word_order c x y d (word_all D cs ++ r) (word_all D ds ++ s) hc.0 hd.0) [
            | inr o ↦ inr o
            | inl v ↦
                elim (word_order_all cs xs ys ds r s (omega arith) hc.1 hd.1) [
                  | inl w ↦ inl (cc)
                  | inr o ↦ elim o [
                    | inl l ↦ inr (inl (subst (λ (u : List ℕ). Sooner (word D c ++ (word_all D cs ++ r)) (u ++ (word_all D ds ++ s))) v (sooner_front (word D c) (word_all D cs ++ r) (word_all D ds ++ s) l)))
                    | inr l ↦ inr (inr (subst (λ (u : List ℕ). Sooner (u ++ (word_all D ds ++ s)) (word D c ++ (word_all D cs ++ r))) v (sooner_front (word D c) (word_all D ds ++ s) (word_all D cs ++ r) l)))
                  ]
                ]
          ]))

    -- of two derivations one is no worse
    pub no_worse_total : (c d : Der D.Rule) (x y : ℕ) → Derives D c x → Derives D d y → NoWorse D c d ⊎ NoWorse D d c
    no_worse_total c d x y hc hd =
        elim (A.order (cost D c) (cost D d)) [
          | inl same ↦
              let o : (word D c ≡ word D d) ⊎ (Sooner (word D c) (word D d) ⊎ Sooner (word D d) (word D c)) =
              simp append-nil at (word_order c x y d [] [] hc hd) in
              elim o [ inl w ↦ inl (inr (same, inl w)) | inr t ↦ elim t [ inl l ↦ inl (inr (same, inr l)) | inr l ↦ inr (inr (sym same, inr l)) ] ]
          | inr t ↦ elim t [ inl l ↦ inl (inl l) | inr l ↦ inr (inl l) ]
        ]

  -- ---- where no rule has a letter, the lighter is no worse
  module _ (silent : Silent D) where
    mutual
      silent_word : (d : Der D.Rule) → word D d ≡ []
      silent_word (node r ds) = ap₂ ◌++◌ (silent r) (silent_words ds)

      silent_words : (ds : Ders D.Rule) → word_all D ds ≡ []
      silent_words none = refl
      silent_words (more d ds) = ap₂ ◌++◌ (silent_word d) (silent_words ds)

    pub silent_no_worse : (c d : Der D.Rule) → Le A (cost D c) (cost D d) → NoWorse D c d
    silent_no_worse c d h =
        elim (le_cases laws (cost D c) (cost D d) h) [ inl same ↦ inr (same, inl (silent_word c ∙ sym (silent_word d))) | inr l ↦ inl l ]

  -- ---- keys
  module _ (e : ℕ → A.Exact) where
    pub keyed_fits : (d : Der D.Rule) (x : ℕ) → Keyed D e d x → Fits D d
    keyed_fits d x h = le_trans laws (cost D d) (A.plus (cost D d) (e x)) A.ceiling (le_first laws (cost D d) (e x)) h

    pub no_worse_whole : (c d : Der D.Rule) (x : ℕ) → NoWorse D c d → Le A (A.plus (cost D c) (e x)) (A.plus (cost D d) (e x))
    no_worse_whole c d x h = le_plus laws (cost D c) (cost D d) (e x) (no_worse_le c d h)

    pub no_worse_keyed : (c d : Der D.Rule) (x : ℕ) → NoWorse D c d → Keyed D e d x → Keyed D e c x
    no_worse_keyed c d x h k = le_trans laws (A.plus (cost D c) (e x)) (A.plus (cost D d) (e x)) A.ceiling (no_worse_whole c d x h) k

    pub no_worse_key : (c d : Der D.Rule) (x : ℕ) → NoWorse D c d → NotAfter A (key D e c x) (key D e d x)
    no_worse_key c d x h (inl l) = no_worse_whole c d x h l
    no_worse_key c d x h (inr b) = elim b.1 [ inl l ↦ no_worse_le c d h l | inr l ↦ laws_lt l.1 ]
      where
        laws_lt : x < x → ⊥
        laws_lt l = omega arith

    -- ---- the parts of a derivation come before it
    module _ (priced : Priced D) (consistent : Consistent D e) where
      parts : (K : Key A) (o p : A.Exact) (ds : Ders D.Rule) (xs : List ℕ) → Le A K.whole A.ceiling → ((xs ≡ [] → ⊥) → A.lt A.none p)
          → A.plus o (cost_all D ds) ≡ K.whole → A.plus p (cost_all D ds) ≡ K.cost → DerivesAll D ds xs
          → ((i : ℕ) → i < length xs → Le A (e (get_or xs i 0)) (A.plus o (cost_all D (omit i ds))))
          → Each (λ d x. Keyed D e d x × Before A (key D e d x) K) ds xs
      parts K o p none [] fits above whole costs h f = tt
      parts K o p none (x ∷ xs) fits above whole costs h f = absurd h
      parts K o p (more d ds) [] fits above whole costs h f = absurd h
      parts K o p (more d ds) (x ∷ xs) fits above whole costs h f =
          let c = cost D d in
          let cs = cost_all D ds in
          let some : x ∷ xs ≡ [] → ⊥ = λ h. let z : suc (length xs) ≡ 0 = ap length h in omega arith in
          let over : A.lt A.none p = above some in
          let first : Le A (e x) (A.plus o cs) = f 0 (omega arith) in
          let regroup : A.plus c (A.plus o cs) ≡ K.whole =
          sym (laws.assoc c o cs) ∙ ap (λ (z : A.Exact). A.plus z cs) (laws.comm c o) ∙ laws.assoc o c cs ∙ whole in
          let low : Le A (A.plus c (e x)) K.whole =
          subst (λ (z : A.Exact). Le A (A.plus c (e x)) z) regroup (le_plus_right laws c (e x) (A.plus o cs) first) in
          let rise : A.lt c (A.plus p c) = subst (λ (z : A.Exact). A.lt z (A.plus p c)) (laws.identity c) (laws.rises A.none p c over) in
          let less : A.lt c K.cost =
          subst (λ (z : A.Exact). A.lt c z) (laws.assoc p c cs ∙ costs) (lt_le_lt laws c (A.plus p c) (A.plus (A.plus p c) cs) rise (le_first laws (A.plus p c) cs)) in
          let rest = parts K (A.plus o c) (A.plus p c) ds xs fits (λ n. lt_le_lt laws A.none p (A.plus p c) over (le_first laws p c)) (laws.assoc o c cs ∙ whole) (laws.assoc p c cs ∙ costs) h.1
          (λ i l. subst (λ (z : A.Exact). Le A (e (get_or xs i 0)) z) (sym (laws.assoc o c (cost_all D (omit i ds)))) (f (suc i) (suc-le-suc l))) in
          ((le_trans laws (A.plus c (e x)) K.whole A.ceiling low fits, before_by_cost laws (key D e d x) K low less), rest)

      -- children first
      pub children : (r : D.Rule) (ds : Ders D.Rule) → DerivesAll D ds (D.prems r) → Keyed D e (node r ds) (D.concl r)
          → Each (λ d x. Keyed D e d x × Before A (key D e d x) (key D e (node r ds) (D.concl r))) ds (D.prems r)
      children r ds h k =
          let w = D.price r in
          let cs = cost_all D ds in
          let a = e (D.concl r) in
          let whole : A.plus (A.plus a w) cs ≡ A.plus (A.plus w cs) a = laws.assoc a w cs ∙ laws.comm a (A.plus w cs) in
          parts (key D e (node r ds) (D.concl r)) (A.plus a w) w ds (D.prems r) k (priced r) whole refl h (consistent r ds h (keyed_fits (node r ds) (D.concl r) k))
