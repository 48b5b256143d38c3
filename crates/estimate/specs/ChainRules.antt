-- Steps as rules, and that their derivations are the chains. Assumes nothing.
use Rattle.std.specs.Prelude.{◌≡◌, ℕ, ◌+◌, ◌*◌, ◌/◌, ◌%◌, ◌<◌, cond, ◌⊎◌, List, [], ◌∷◌, length, Some, Option, ◌≢◌, slice_index, slice_index_or, refl}
use Rattle.std.proofs.Common.{sym, ap, subst, subst₂, ◌∙◌, inl, inr, arith}
use Rattle.std.proofs.lemmas.Bool.{eq-eqb, ne_eqb, cases_eq}
use Rattle.weight.specs.Algebra.{Algebra, Lawful, Le}
use Rattle.weight.proofs.Orders.{le_eq, le_trans, le_plus_both, le_whole, le_first, plus_none}
use Rattle.grammar.specs.Grammars.{GrammarModel, production}
use Rattle.deduction.specs.Deduction.{System, Der, Ders, node, none, more, but, Derives, DerivesAll, cost, cost_all}
use Rattle.estimate.specs.declared.rules.Rule.{Rule}
use Rattle.estimate.specs.Rules.{premises_of, Numbered, system}
use Rattle.estimate.specs.Estimates.{AllLightest, together}
use Rattle.estimate.specs.Chains.{Chain, begin, step, way, ChainStep}

pub way_start : (m : GrammarModel) (a : ℕ) → a ≡ m.start → way m a ≡ []
way_start m a p = ap (λ b. cond b [] (a ∷ [])) (eq-eqb a m.start p)

pub way_other : (m : GrammarModel) (a : ℕ) → (a ≢ m.start) → way m a ≡ a ∷ []
way_other m a ne = ap (λ b. cond b [] (a ∷ [])) (ne_eqb a m.start ne)

-- rules that are steps, all of them but those whose price is over
module _ {A : Algebra} (laws : Lawful A) {W : Type 0} (exact : W → A.Exact) (m : GrammarModel) (n : ℕ) (gives : ℕ → Option (Rule W) → Type 0)
    (tell : (k : ℕ) (r : Rule W) → k < n → gives k (Some r) → (p : ℕ) × (i : ℕ) × ChainStep A exact m p i r) where
  abbrev D : System A
  D = system A exact n gives

  nothing_costs : (ds : Ders D.Rule) → DerivesAll D ds [] → cost_all D ds ≡ A.none
  nothing_costs none h = refl
  nothing_costs (more d ds) h = absurd h

  abbrev At : ℕ → A.Exact → Type 0
  At c w = Chain A m c w

  mutual
    -- a derivation is a chain of its cost, to another category than the start
    pub chain_of : (d : Der D.Rule) (x : ℕ) → Derives D d x → At x (cost D d)
    chain_of (node r ds) x h =
        let t = tell r.0 r.1 r.2 r.3 in
        let s = t.2 in
        let q = production m t.0 in
        let w = A.taken q.weight in
        let u = together A s.weights in
        let price = exact r.1.price in
        elim (cases_eq q.category m.start) [
          | inl p ↦
              let parts : DerivesAll D ds [] = subst (DerivesAll D ds) (s.premises ∙ way_start m q.category p) h.1 in
              let weight : A.plus (A.plus A.none w) u ≡ A.plus price (cost_all D ds) =
              ap (λ (v : A.Exact). A.plus v u) (laws.identity w) ∙ sym s.price ∙ sym (plus_none laws price) ∙ ap (A.plus price) (sym (nothing_costs ds parts)) in
              subst₂ At (sym s.result ∙ h.0) weight (step t.0 t.1 s.weights A.none s.known s.argument s.fellows (subst (λ c. At c A.none) (sym p) begin))
          | inr ne ↦
              let parts = chain_all ds q.category (subst (DerivesAll D ds) (s.premises ∙ way_other m q.category ne) h.1) in
              let v = parts.0 in
              let weight : A.plus (A.plus v w) u ≡ A.plus price (cost_all D ds) =
              laws.assoc v w u ∙ laws.comm v (A.plus w u) ∙ (λ i. A.plus (sym s.price i) (sym parts.2 i)) in
              subst₂ At (sym s.result ∙ h.0) weight (step t.0 t.1 s.weights v s.known s.argument s.fellows parts.1)
        ]

    chain_all : (ds : Ders D.Rule) (a : ℕ) → DerivesAll D ds (a ∷ []) → (v : A.Exact) × At a v × (cost_all D ds ≡ v)
    chain_all none a h = absurd h
    chain_all (more d none) a h = (cost D d, chain_of d a h.0, plus_none laws (cost D d))
    chain_all (more d (more c ds)) a h = absurd h.1

  pub away_of : (d : Der D.Rule) (x : ℕ) → Derives D d x → x ≢ m.start
  away_of (node r ds) x h p =
      let t = tell r.0 r.1 r.2 r.3 in
      t.2.away (sym t.2.result ∙ h.0 ∙ p)

  module _ (Over : A.Exact → Type 0) (up : (a b : A.Exact) → Over a → Le A a b → Over b)
      (complete : (p i : ℕ) (ws : List A.Exact) → p < length m.productions → i < length (production m p).arguments → AllLightest A m (but i (production m p).arguments) ws → (slice_index (production m p).arguments i ≢ m.start)
      → ((r : Numbered n gives) × (r.1.result ≡ slice_index (production m p).arguments i) × (premises_of r.1.premises ≡ way m (production m p).category) × (exact r.1.price ≡ A.plus (A.taken (production m p).weight) (together A ws)))
      ⊎ Over (A.plus (A.taken (production m p).weight) (together A ws))) where
    -- a chain goes to the start, or is over, or a derivation costs no more
    pub der_of : (x : ℕ) (v : A.Exact) → At x v → (x ≡ m.start) ⊎ (Over v ⊎ ((d : Der D.Rule) × Derives D d x × Le A (cost D d) v))
    der_of x v begin = inl refl
    der_of x v (step p i ws w known argument fellows c) =
        let q = production m p in
        let b = slice_index_or q.arguments i 0 in
        let t = A.taken q.weight in
        let u = together A ws in
        let whole = A.plus (A.plus w t) u in
        let turned : A.plus w (A.plus t u) ≡ whole = sym (laws.assoc w t u) in
        let part : Le A (A.plus t u) whole = subst (Le A (A.plus t u)) turned (le_whole laws w (A.plus t u)) in
        elim (cases_eq b m.start) [
          | inl z ↦ inl z
          | inr away ↦ inr (elim (complete p i ws known argument fellows away) [
            | inr over ↦ inl (up (A.plus t u) whole over part)
            | inl r ↦ elim (cases_eq q.category m.start) [
              | inl z ↦
                  let cheap : Le A (A.plus (exact r.0.1.price) A.none) whole = subst (λ (a : A.Exact). Le A a whole) (sym (plus_none laws (exact r.0.1.price) ∙ r.3)) part in
                  inr (node r.0 none, (r.1, subst (DerivesAll D none) (sym (r.2 ∙ way_start m q.category z)) tt), cheap)
              | inr ne ↦ elim (der_of q.category w c) [
                | inl z ↦ absurd (ne z)
                | inr o ↦ elim o [
                  | inl over ↦ inl (up w whole over (le_trans laws w (A.plus w t) whole (le_first laws w t) (le_first laws (A.plus w t) u)))
                  | inr d ↦
                      let price = exact r.0.1.price in
                      let rest = A.plus (cost D d.0) A.none in
                      let low : Le A rest w = subst (λ (a : A.Exact). Le A a w) (sym (plus_none laws (cost D d.0))) d.2 in
                      let same : A.plus (A.plus t u) w ≡ whole = laws.comm (A.plus t u) w ∙ turned in
                      let cheap : Le A (A.plus price rest) whole =
                      subst (Le A (A.plus price rest)) same (le_plus_both laws price (A.plus t u) rest w (le_eq laws price (A.plus t u) r.3) low) in
                      inr (node r.0 (more d.0 none), (r.1, subst (DerivesAll D (more d.0 none)) (sym (r.2 ∙ way_other m q.category ne)) (d.1, tt)), cheap)
                ]
              ]
            ]
          ])
        ]

-- ---- numbers of steps
pub of_third : (p i : ℕ) → i < 3 → ((3 * p + i) / 3 ≡ p) × ((3 * p + i) % 3 ≡ i)
of_third p i h = (omega arith, omega arith)
