-- A command and its bytes.
use Rattle.std.proofs.Common.{◌≡◌, ℕ, ◌+◌, ◌*◌, ◌/◌, ◌%◌, ◌<◌, eqb, List, [], ◌∷◌, ◌++◌, length, Ok, Err, sym, refl, ap, ◌∙◌, ap₂, arith}
use Rattle.std.proofs.lemmas.Bool.{cond_both, eqb-true}
use Rattle.grammar.specs.Commands.{Command, Kind, Category, Start, Production, Constituent, Token, Part, End, operands, Next, wide, one, two, seven, production_of, token_of, next_of}
pub use Rattle.grammar.specs.Commands.{bytes}
use Rattle.grammar.specs.Commands.{Bytes}

pub shorter : (c : Command) (rest : List ℕ) → length rest < length (bytes c ++ rest)
shorter (Kind k) rest = omega arith
shorter (Category x) rest = omega arith
shorter (Start x) rest = omega arith
shorter (Production o) rest = omega arith
shorter Constituent rest = omega arith
shorter (Token t) rest = omega arith
shorter (Part k l) rest = omega arith
shorter End rest = omega arith

two_bytes : (w : ℕ) → w / 256 * 256 + w % 256 ≡ w
two_bytes w = omega arith

pub read_back : (c : Command) (rest : List ℕ) → next_of (bytes c ++ rest) ≡ Ok (c, rest)
read_back (Kind k) rest = refl
read_back (Category x) rest = refl
read_back (Start x) rest = refl
read_back (Production o) rest = ap {B = Next} (λ v. Ok (Production (operands o.category v o.arity o.first o.second o.third), rest)) (two_bytes o.weight)
read_back Constituent rest = refl
read_back (Token t) rest = ap {B = Next} (λ v. Ok (Token v, rest)) (two_bytes t)
read_back (Part k l) rest = refl
read_back End rest = refl

-- what a command that is read of bytes can hold
abbrev pub Fits : Command → Type 0
Fits (Kind k) = k < 256
Fits (Category x) = Unit {0}
Fits (Start x) = Unit {0}
Fits (Production o) = o.weight < 65536
Fits Constituent = Unit {0}
Fits (Token t) = t < 65536
Fits (Part k l) = Unit {0}
Fits End = Unit {0}

abbrev pub Read : List ℕ → Next → Type 0
Read p (Err e) = Unit {0}
Read p (Ok x) = (p ≡ bytes x.0 ++ x.1) × Fits x.0 × Bytes x.1

read_one : (f : ℕ → Command) (k op : ℕ) (rest : List ℕ) → op ≡ k → ((a : ℕ) → bytes (f a) ≡ k ∷ a ∷ []) → ((a : ℕ) → a < 256 → Fits (f a))
    → Bytes rest → Read (op ∷ rest) (one f rest)
read_one f k op [] e q h b = tt
read_one f k op (a ∷ r) e q h b = (ap (λ o. o ∷ a ∷ r) e ∙ ap (λ u. u ++ r) (sym (q a)), h a b.0, b.1)

read_two : (f : ℕ → ℕ → Command) (k op : ℕ) (rest : List ℕ) → op ≡ k → ((a b : ℕ) → b < 256 → bytes (f a b) ≡ k ∷ a ∷ b ∷ [])
    → ((a b : ℕ) → a < 256 → b < 256 → Fits (f a b)) → Bytes rest → Read (op ∷ rest) (two f rest)
read_two f k op [] e q h b = tt
read_two f k op (x ∷ []) e q h b = tt
read_two f k op (x ∷ y ∷ r) e q h b =
    (ap (λ o. o ∷ x ∷ y ∷ r) e ∙ ap (λ u. u ++ r) (sym (q x y b.1.0)), h x y b.0 b.1.0, b.1.1)

high_of : (h l : ℕ) → l < 256 → wide h l / 256 ≡ h
high_of h l b = omega arith

low_of : (h l : ℕ) → l < 256 → wide h l % 256 ≡ l
low_of h l b = omega arith

read_seven : (op : ℕ) (rest : List ℕ) → op ≡ 4 → Bytes rest → Read (op ∷ rest) (seven production_of rest)
read_seven op [] e b = tt
read_seven op (c ∷ []) e b = tt
read_seven op (c ∷ h ∷ []) e b = tt
read_seven op (c ∷ h ∷ l ∷ []) e b = tt
read_seven op (c ∷ h ∷ l ∷ n ∷ []) e b = tt
read_seven op (c ∷ h ∷ l ∷ n ∷ x ∷ []) e b = tt
read_seven op (c ∷ h ∷ l ∷ n ∷ x ∷ y ∷ []) e b = tt
read_seven op (c ∷ h ∷ l ∷ n ∷ x ∷ y ∷ z ∷ r) e b =
    let bh : h < 256 = b.1.0 in
    let bl : l < 256 = b.1.1.0 in (
      ap (λ o. o ∷ c ∷ h ∷ l ∷ n ∷ x ∷ y ∷ z ∷ r) e
          ∙ ap₂ (λ u v. 4 ∷ c ∷ u ∷ v ∷ n ∷ x ∷ y ∷ z ∷ r) (sym (high_of h l bl)) (sym (low_of h l bl)),
      wide_fits h l bh bl,
      b.1.1.1.1.1.1.1,
    )
  where
    wide_fits : (h l : ℕ) → h < 256 → l < 256 → wide h l < 65536
    wide_fits h l bh bl = omega arith

pub reads : (p : List ℕ) → Bytes p → Read p (next_of p)
reads [] b = tt
reads (op ∷ rest) b =
    cond_both (eqb op 1) _ _ R (λ e. read_one Kind 1 op rest (eqb-true op 1 e) (λ a. refl) (λ a h. h) b.1)
    (λ _. cond_both (eqb op 2) _ _ R (λ e. read_one Category 2 op rest (eqb-true op 2 e) (λ a. refl) (λ a h. tt) b.1)
    (λ _. cond_both (eqb op 3) _ _ R (λ e. read_one Start 3 op rest (eqb-true op 3 e) (λ a. refl) (λ a h. tt) b.1)
    (λ _. cond_both (eqb op 4) _ _ R (λ e. read_seven op rest (eqb-true op 4 e) b.1)
    (λ _. cond_both (eqb op 5) _ _ R (λ e. (ap (λ o. o ∷ rest) (eqb-true op 5 e), tt, b.1))
    (λ _. cond_both (eqb op 6) _ _ R (λ e. read_two token_of 6 op rest (eqb-true op 6 e) token_bytes token_fits b.1)
    (λ _. cond_both (eqb op 7) _ _ R (λ e. read_two Part 7 op rest (eqb-true op 7 e) (λ a c h. refl) (λ a c h k. tt) b.1)
    (λ _. cond_both (eqb op 8) _ _ R (λ e. (ap (λ o. o ∷ rest) (eqb-true op 8 e), tt, b.1))
    (λ _. tt))))))))
  where
    R : Next → Type 0
    R x = Read (op ∷ rest) x

    token_bytes : (a c : ℕ) → c < 256 → bytes (token_of a c) ≡ 6 ∷ a ∷ c ∷ []
    token_bytes a c h = ap₂ (λ u v. 6 ∷ u ∷ v ∷ []) (high_of a c h) (low_of a c h)

    token_fits : (a c : ℕ) → a < 256 → c < 256 → Fits (token_of a c)
    token_fits a c h k = wide_fits a c h k
      where
        wide_fits : (h l : ℕ) → h < 256 → l < 256 → wide h l < 65536
        wide_fits h l bh bl = omega arith
