-- Commands say which tree they are of, and earlier is an order.
use Rattle.std.proofs.Common.{◌≡◌, ℕ, ◌+◌, ◌*◌, ◌/◌, ◌%◌, ◌<◌, ◌⊎◌, List, [], ◌∷◌, ◌++◌, sym, refl, ap, ◌∙◌, subst, ap₂, inl, inr, append_assoc, append-nil, arith}
use Rattle.std.proofs.lemmas.Bool.{cases_order}
use Rattle.grammar.specs.Limits.{most_productions}
use Rattle.grammar.specs.Grammars.{GrammarModel, production}
use Rattle.grammar.specs.Formed.{Each, WellFormed}
use Rattle.grammar.specs.Commands.{Bytes}
use Rattle.grammar.specs.Trees.{Tree, Forest, node, empty, more, commands, all_commands, command_bytes, numbers, TreeIn, TreesIn}
use Rattle.grammar.specs.Orders.{Sooner, Earlier, Exchanged, ExchangedIn, here, below, first, later}
use Rattle.grammar.proofs.Each.{each_append}

module _ (g : GrammarModel) where
  mutual
    pub decode : (c d : ℕ) (t u : Tree) (r s : List ℕ) → TreeIn g c t → TreeIn g d u → commands t ++ r ≡ commands u ++ s → (t ≡ u) × (r ≡ s)
    decode c d (node p ts) (node q us) r s wt wu e =
        let hp : p ≡ q = cc in
        let ht : all_commands ts ++ r ≡ all_commands us ++ s = cc in
        let P : ℕ → Type 0 = λ x. TreesIn g (production g x).arguments us in
        let k = decode_all (production g p).arguments ts us r s wt.2 (subst P (sym hp) wu.2) ht in
        (ap₂ node hp k.0, k.1)

    pub decode_all : (cs : List ℕ) (ts us : Forest) (r s : List ℕ) → TreesIn g cs ts → TreesIn g cs us → all_commands ts ++ r ≡ all_commands us ++ s → (ts ≡ us) × (r ≡ s)
    decode_all [] empty empty r s wt wu e = (refl, e)
    decode_all [] empty (more u us) r s wt wu e = absurd wu
    decode_all [] (more t ts) us r s wt wu e = absurd wt
    decode_all (c ∷ cs) empty us r s wt wu e = absurd wt
    decode_all (c ∷ cs) (more t ts) empty r s wt wu e = absurd wu
    decode_all (c ∷ cs) (more t ts) (more u us) r s wt wu e =
        let f : commands t ++ (all_commands ts ++ r) ≡ commands u ++ (all_commands us ++ s) = simp append_assoc at e in
        let h = decode c c t u (all_commands ts ++ r) (all_commands us ++ s) wt.0 wu.0 f in
        let k = decode_all cs ts us r s wt.1 wu.1 h.1 in
        (ap₂ more h.0 k.0, k.1)

pub one_tree : (g : GrammarModel) (c d : ℕ) (t u : Tree) → TreeIn g c t → TreeIn g d u → commands t ≡ commands u → t ≡ u
one_tree g c d t u wt wu e = (decode g c d t u [] [] wt wu (ap (λ xs. xs ++ []) e)).0

-- one of the two is sooner, or begins with the other
data Ordered (xs ys : List ℕ) : Type 0 where
  one : Sooner xs ys → Ordered xs ys
  other : Sooner ys xs → Ordered xs ys
  front : (z : List ℕ) → xs ++ z ≡ ys → Ordered xs ys
  behind : (z : List ℕ) → ys ++ z ≡ xs → Ordered xs ys

ordered : (xs ys : List ℕ) → Ordered xs ys
ordered [] ys = front ys refl
ordered (x ∷ xs) [] = behind (x ∷ xs) refl
ordered (x ∷ xs) (y ∷ ys) =
    elim (cases_order x y) [
      | inl e ↦ elim (ordered xs ys) [
        | one h ↦ one (inr (e, h))
        | other h ↦ other (inr (sym e, h))
        | front z h ↦ front z (ap₂ ◌∷◌ e h)
        | behind z h ↦ behind z (ap₂ ◌∷◌ (sym e) h)
      ]
      | inr o ↦ elim o [ inl lt ↦ one (inl lt) | inr lt ↦ other (inl lt) ]
    ]

pub earlier_total : (g : GrammarModel) (c d : ℕ) (t u : Tree) → TreeIn g c t → TreeIn g d u → (t ≡ u) ⊎ (Earlier t u ⊎ Earlier u t)
earlier_total g c d t u wt wu =
    elim (ordered (commands t) (commands u)) [
      | one h ↦ inr (inl h)
      | other h ↦ inr (inr h)
      | front z h ↦ inl (decode g c d t u z [] wt wu (h ∙ sym (append-nil (commands u)))).0
      | behind z h ↦ inl (sym (decode g d c u t z [] wu wt (h ∙ sym (append-nil (commands t)))).0)
    ]

pub sooner_irreflexive : (xs : List ℕ) → Sooner xs xs → ⊥
sooner_irreflexive [] h = h
sooner_irreflexive (x ∷ xs) (inl lt) = omega arith
sooner_irreflexive (x ∷ xs) (inr h) = sooner_irreflexive xs h.1

pub sooner_transitive : (xs ys zs : List ℕ) → Sooner xs ys → Sooner ys zs → Sooner xs zs
sooner_transitive [] ys zs h k = absurd h
sooner_transitive (x ∷ xs) [] zs h k = absurd h
sooner_transitive (x ∷ xs) (y ∷ ys) [] h k = absurd k
sooner_transitive (x ∷ xs) (y ∷ ys) (z ∷ zs) (inl a) (inl b) = inl (omega arith)
sooner_transitive (x ∷ xs) (y ∷ ys) (z ∷ zs) (inl a) (inr b) = inl (omega (arith, b.0))
sooner_transitive (x ∷ xs) (y ∷ ys) (z ∷ zs) (inr a) (inl b) = inl (omega (arith, a.0))
sooner_transitive (x ∷ xs) (y ∷ ys) (z ∷ zs) (inr a) (inr b) = inr (a.0 ∙ b.0, sooner_transitive xs ys zs a.1 b.1)

-- what follows does not matter, nor what both begin with
sooner_append : (xs ys r s : List ℕ) → Sooner xs ys → Sooner (xs ++ r) (ys ++ s)
sooner_append [] ys r s h = absurd h
sooner_append (x ∷ xs) [] r s h = absurd h
sooner_append (x ∷ xs) (y ∷ ys) r s (inl lt) = inl lt
sooner_append (x ∷ xs) (y ∷ ys) r s (inr h) = inr (h.0, sooner_append xs ys r s h.1)

sooner_front : (xs ys zs : List ℕ) → Sooner ys zs → Sooner (xs ++ ys) (xs ++ zs)
sooner_front [] ys zs h = h
sooner_front (x ∷ xs) ys zs h = inr (refl, sooner_front xs ys zs h)

module _ (a b : Tree) (earlier : Earlier b a) where
  mutual
    exchanged : {t u : Tree} → Exchanged a b t u → Earlier u t
    exchanged here = earlier
    exchanged (below h) = inr (refl, exchanged_in h)

    exchanged_in : {ts us : Forest} → ExchangedIn a b ts us → Sooner (all_commands us) (all_commands ts)
    exchanged_in (first {t = t} {u = u} {ts = ts} h) = sooner_append (commands u) (commands t) (all_commands ts) (all_commands ts) (exchanged h)
    exchanged_in (later {t = t} {ts = ts} {us = us} h) = sooner_front (commands t) (all_commands us) (all_commands ts) (exchanged_in h)

pub exchange : (a b t u : Tree) → Earlier b a → Exchanged a b t u → Earlier u t
exchange a b t u e h = exchanged a b e h

module _ (g : GrammarModel) (a b : Tree) (kept : (c : ℕ) → TreeIn g c a → TreeIn g c b) where
  mutual
    pub exchange_in : {t u : Tree} → Exchanged a b t u → (c : ℕ) → TreeIn g c t → TreeIn g c u
    exchange_in here c w = kept c w
    exchange_in (below {p = p} h) c w = (w.0, w.1, exchange_all h (production g p).arguments w.2)

    exchange_all : {ts us : Forest} → ExchangedIn a b ts us → (cs : List ℕ) → TreesIn g cs ts → TreesIn g cs us
    exchange_all (first h) [] w = absurd w
    exchange_all (first h) (c ∷ cs) w = (exchange_in h c w.0, w.1)
    exchange_all (later h) [] w = absurd w
    exchange_all (later h) (c ∷ cs) w = (w.0, exchange_all h cs w.1)

pub bytes_decode : (ps : List ℕ) → numbers (command_bytes ps) ≡ ps
bytes_decode [] = refl
bytes_decode (p ∷ ps) = let e : p / 256 * 256 + p % 256 ≡ p = omega arith in ap₂ ◌∷◌ e (bytes_decode ps)

module _ (g : GrammarModel) (well : WellFormed g) where
  mutual
    pub tree_numbers : (c : ℕ) (t : Tree) → TreeIn g c t → Each (λ p. p < most_productions) (commands t)
    tree_numbers c (node p ts) w = (omega (arith, w.0, well.productions_most), forest_numbers (production g p).arguments ts w.2)

    pub forest_numbers : (cs : List ℕ) (ts : Forest) → TreesIn g cs ts → Each (λ p. p < most_productions) (all_commands ts)
    forest_numbers [] empty w = tt
    forest_numbers [] (more t ts) w = absurd w
    forest_numbers (c ∷ cs) empty w = absurd w
    forest_numbers (c ∷ cs) (more t ts) w = each_append (λ p. p < most_productions) (commands t) (all_commands ts) (tree_numbers c t w.0) (forest_numbers cs ts w.1)

numbers_bytes : (ps : List ℕ) → Each (λ p. p < most_productions) ps → Bytes (command_bytes ps)
numbers_bytes [] h = tt
numbers_bytes (p ∷ ps) h = (omega arith, (omega (arith, h.0), (omega arith, numbers_bytes ps h.1)))

pub tree_bytes : (g : GrammarModel) (c : ℕ) (t : Tree) → WellFormed g → TreeIn g c t → Bytes (command_bytes (commands t))
tree_bytes g c t well w = numbers_bytes (commands t) (tree_numbers g well c t w)
