-- The bytes that are read so far, in front of those that are left.
use Rattle.std.proofs.Common.{◌≡◌, ℕ, ◌<◌, true, cond, eqb, List, [], ◌∷◌, ◌++◌, length, Some, None, Option, sym, refl, ap, ◌∙◌, subst, append_assoc, arith}
use Rattle.std.proofs.lemmas.Bool.{cond_both}
use Rattle.console.specs.Hex.{byte_of, fronted, bytes_of, with_rest, next_of}

abbrev pub behind : List ℕ → Option (List ℕ) → Option (List ℕ)
behind xs None = None
behind xs (Some ys) = Some (xs ++ ys)

pub behind_none : (o : Option (List ℕ)) → o ≡ behind [] o
behind_none None = refl
behind_none (Some ys) = refl

pub behind_more : (xs : List ℕ) (b : ℕ) (o : Option (List ℕ)) → behind xs (fronted (Some b) o) ≡ behind (xs ++ b ∷ []) o
behind_more xs b None = refl
behind_more xs b (Some ys) = ap {B = Option (List ℕ)} (λ zs. Some zs) (sym (append_assoc xs (b ∷ []) ys))

-- what follows from the next byte of a text
abbrev Follows : List ℕ → Option (ℕ × List ℕ) → Type 0
Follows p None = (p ≡ [] → ⊥) → bytes_of p ≡ None
Follows p (Some x) = (bytes_of p ≡ fronted (Some x.0) (bytes_of x.1)) × (length x.1 < length p)

with_follows : (s h l : ℕ) (rest : List ℕ) (o : Option ℕ) → o ≡ byte_of h l → eqb s 32 ≡ true → Follows (s ∷ h ∷ l ∷ rest) (with_rest o rest)
with_follows s h l rest None e t = λ _. ap (λ b. cond b (fronted (byte_of h l) (bytes_of rest)) None) t ∙ ap (λ o. fronted o (bytes_of rest)) (sym e)
with_follows s h l rest (Some b) e t =
    (ap (λ b. cond b (fronted (byte_of h l) (bytes_of rest)) None) t ∙ ap (λ o. fronted o (bytes_of rest)) (sym e), omega arith)

follows : (p : List ℕ) → Follows p (next_of p)
follows [] = λ n. absurd (n refl)
follows (s ∷ []) = λ _. refl
follows (s ∷ h ∷ []) = λ _. refl
follows (s ∷ h ∷ l ∷ rest) =
    cond_both (eqb s 32) (with_rest (byte_of h l) rest) None (Follows (s ∷ h ∷ l ∷ rest))
    (λ t. with_follows s h l rest (byte_of h l) refl t)
    (λ t _. ap (λ b. cond b (fronted (byte_of h l) (bytes_of rest)) None) t)

pub next_more : (p q : List ℕ) (b : ℕ) → next_of p ≡ Some (b, q) → bytes_of p ≡ fronted (Some b) (bytes_of q)
next_more p q b e = (subst (Follows p) e (follows p)).0

pub next_less : (p q : List ℕ) (b : ℕ) → next_of p ≡ Some (b, q) → length q < length p
next_less p q b e = (subst (Follows p) e (follows p)).1

pub next_none : (p : List ℕ) → next_of p ≡ None → (length p ≡ 0 → ⊥) → bytes_of p ≡ None
next_none p e n = subst (Follows p) e (follows p) (λ z. n (ap length z))
