-- Orders by one number and then by another. Assumes nothing.
use Rattle.std.specs.Prelude.{◌≡◌, ℕ, ◌<◌, Bool, true, false, ◌&&◌, ◌||◌, ltb, ◌==◌, nat_lt, refl}
use Rattle.std.proofs.Common.{sym, ap, ◌∙◌, inl, inr}
use Rattle.std.proofs.Math.Nat.{le_of_lt, le_trans, le_antisymm, not-le_of_lt, lt_of_not-le}
use Rattle.std.proofs.lemmas.Bool.{ltb-true, ltb-false, le-ltb, eqb-true, eqb-false, ne_eqb, cases_lt, or_cases, or_parts, or_from, and_parts, and_cases, and_left, and_right, both_ways}
use Rattle.agenda.specs.Orders.{Ordered}

pub rising : Ordered ltb
rising = record {
  one_way = λ x y h. le-ltb y x (le_of_lt (ltb-true x y h));
  chain = λ x y z h g. le-ltb x z (le_trans (ltb-false y z g) (ltb-false x y h));
  same = λ x y h g. le_antisymm (ltb-false y x g) (ltb-false x y h);
}

pub falling : Ordered (λ x y. ltb y x)
falling = record {
  one_way = λ x y h. rising.one_way y x h;
  chain = λ x y z h g. rising.chain z y x g h;
  same = λ x y h g. rising.same x y g h;
}

module _ (less : ℕ → ℕ → Bool) (o : Ordered less) where
  abbrev lex : ℕ → ℕ → ℕ → ℕ → Bool
  lex a b c d = less a c || (a == c && nat_lt b d)

  itself : (a : ℕ) (t : Bool) → less a a ≡ t → less a a ≡ false
  itself a true h = o.one_way a a h
  itself a false h = h

  lex_not : (a b c d : ℕ) → less a c ≡ false → (a ≡ c → b < d → ⊥) → lex a b c d ≡ false
  lex_not a b c d h n =
      or_from (less a c) (a == c && nat_lt b d) h
      (elim (cases_lt b d) [
        | inl l ↦ and_left (a == c) (nat_lt b d) (ne_eqb a c (λ e. n e l))
        | inr l ↦ and_right (a == c) (nat_lt b d) (le-ltb b d l)
      ])

  lex_out : (a b c d : ℕ) → lex a b c d ≡ false → (less a c ≡ false) × (a ≡ c → b < d → ⊥)
  lex_out a b c d h =
      let p = or_parts (less a c) (a == c && nat_lt b d) h in
      (p.0, λ e l. elim (and_cases (a == c) (nat_lt b d) p.1) [ inl t ↦ eqb-false a c t e | inr t ↦ not-le_of_lt l (ltb-false b d t) ])

  lex_one_way : (a b c d : ℕ) → lex a b c d ≡ true → lex c d a b ≡ false
  lex_one_way a b c d h =
      elim (or_cases (less a c) (a == c && nat_lt b d) h) [
        | inl t ↦ lex_not c d a b (o.one_way a c t) (λ e l. both_ways (less a c) (ap (less a) e ∙ itself a _ refl) t)
        | inr t ↦
            let p = and_parts (a == c) (nat_lt b d) t in
            let same : a ≡ c = eqb-true a c p.0 in
            lex_not c d a b (ap (λ k. less k a) (sym same) ∙ itself a _ refl) (λ e l. not-le_of_lt l (le_of_lt (ltb-true b d p.1)))
      ]

  module _ {X : Type 0} (f g : X → ℕ) (one : (x y : X) → f x ≡ f y → g x ≡ g y → x ≡ y) where
    pub lexical : Ordered (λ x y. less (f x) (f y) || (f x == f y && nat_lt (g x) (g y)))
    lexical = record {
      one_way = λ x y h. lex_one_way (f x) (g x) (f y) (g y) h;
      chain = λ x y z h k.
          let p = lex_out (f x) (g x) (f y) (g y) h in
          let q = lex_out (f y) (g y) (f z) (g z) k in
          lex_not (f x) (g x) (f z) (g z) (o.chain (f x) (f y) (f z) p.0 q.0) (λ e l.
          let s : f x ≡ f y = o.same (f x) (f y) p.0 (ap (less (f y)) e ∙ q.0) in
          elim (cases_lt (g x) (g y)) [ inl a ↦ p.1 s a | inr a ↦ q.1 (sym s ∙ e) (lt_of_not-le (λ w. not-le_of_lt l (le_trans w a))) ]);
      same = λ x y h k.
          let p = lex_out (f x) (g x) (f y) (g y) h in
          let q = lex_out (f y) (g y) (f x) (g x) k in
          let s : f x ≡ f y = o.same (f x) (f y) p.0 q.0 in
          let u : g x < g y → ⊥ = p.1 s in
          let v : g y < g x → ⊥ = q.1 (sym s) in
          one x y s (elim (cases_lt (g x) (g y)) [ inl l ↦ absurd (u l) | inr a ↦ elim (cases_lt (g y) (g x)) [ inl l ↦ absurd (v l) | inr b ↦ le_antisymm b a ] ]);
    }
