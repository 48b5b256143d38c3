-- Yields whose tokens lie end to end.
use Rattle.std.proofs.Common.{◌≡◌, ℕ, zero, suc, ◌+◌, ◌-◌, ◌<◌, ◌≤◌, ◌&&◌, eqb, List, [], ◌∷◌, ◌++◌, map, length, get_or, take, drop, sym, refl, ap, ◌∙◌, arith, length-drop}
use Rattle.std.proofs.lemmas.List.{drop-drop, drop_more, at_drop_more, get_or_past, length-map, length-take-le}
use Rattle.std.specs.List.{list_all, zip}
use Rattle.grammar.specs.Trees.{tokens_in}
use Rattle.replay.specs.Replays.{Yields, fit, categories_on, strings_on, tokens_on}
use Rattle.replay.specs.Shapes.{Lengths, One, Two, Shape, size, total, cut, laid_out}

-- what stands past the end of a list of shapes
abbrev pub no_shape : Shape
no_shape = record { category = 0; lengths = One 0 }

abbrev pub categories : List Shape → List ℕ
categories ss = map (λ s. s.category) ss

pub total_more : (ss : List Shape) (i : ℕ) → i < length ss → total (drop i ss) ≡ size (get_or ss i no_shape).lengths + total (drop (i + 1) ss)
total_more ss i h = at_drop_more total ss i no_shape h

pub total_all : (ss : List Shape) (n i : ℕ) → length ss ≤ i → n + total (drop i ss) ≡ total ss → n ≡ total ss
total_all [] n zero h e = omega arith
total_all [] n (suc i) h e = omega arith
total_all (s ∷ ss) n zero h e = absurd (omega arith)
total_all (s ∷ ss) n (suc i) h e = omega (arith, total_none ss i (omega arith), e)
  where
    total_none : (ss : List Shape) (i : ℕ) → length ss ≤ i → total (drop i ss) ≡ 0
    total_none [] zero h = refl
    total_none [] (suc i) h = refl
    total_none (s ∷ ss) zero h = absurd (omega arith)
    total_none (s ∷ ss) (suc i) h = total_none ss i (omega arith)

pub total_take : (ss : List Shape) (k : ℕ) → k < length ss → total (take k ss) + size (get_or ss k no_shape).lengths ≤ total ss
total_take [] k h = absurd (omega arith)
total_take (s ∷ ss) zero h = omega arith
total_take (s ∷ ss) (suc k) h = omega (arith, total_take ss k (omega arith))

pub total_front : (ss : List Shape) (k : ℕ) → total (take k ss) + total (drop k ss) ≡ total ss
total_front [] zero = refl
total_front [] (suc k) = refl
total_front (s ∷ ss) zero = omega arith
total_front (s ∷ ss) (suc k) = omega (arith, total_front ss k)

pub length_laid : (ss : List Shape) (ts : List ℕ) → length (laid_out ss ts) ≡ length ss
length_laid [] ts = refl
length_laid (s ∷ ss) ts = ap suc (length_laid ss (drop (size s.lengths) ts))

pub categories_laid : (ss : List Shape) (ts : List ℕ) → categories_on (laid_out ss ts) ≡ categories ss
categories_laid [] ts = refl
categories_laid (s ∷ ss) ts = ap (λ cs. s.category ∷ cs) (categories_laid ss (drop (size s.lengths) ts))

pub laid_at : (ss : List Shape) (k : ℕ) (ts : List ℕ) → k < length ss
    → get_or (strings_on (laid_out ss ts)) k [] ≡ cut (get_or ss k no_shape).lengths (drop (total (take k ss)) ts)
laid_at [] k ts h = absurd (omega arith)
laid_at (s ∷ ss) zero ts h = refl
laid_at (s ∷ ss) (suc k) ts h =
    laid_at ss k (drop (size s.lengths) ts) (omega arith)
    ∙ ap (cut (get_or ss k no_shape).lengths) (drop-drop (total (take k ss)) (size s.lengths) ts)

-- string l of yield k, where it begins at start among the yield's own tokens
pub place_at : (ss : List Shape) (k l before start n : ℕ) → k < length ss → before ≡ total (take k ss)
    → ((ts : List ℕ) → take n (drop start ts) ≡ get_or (cut (get_or ss k no_shape).lengths ts) l [])
    → (ts : List ℕ) → take n (drop (before + start) ts) ≡ get_or (get_or (strings_on (laid_out ss ts)) k []) l []
place_at ss k l before start n h e f ts =
    ap (take n) (sym (drop-drop start before ts))
    ∙ f (drop before ts)
    ∙ ap (λ b. get_or (cut (get_or ss k no_shape).lengths (drop b ts)) l []) e
    ∙ ap (λ (y : List (List ℕ)). get_or y l []) (sym (laid_at ss k ts h))

pub place_past : (ss : List Shape) (k l : ℕ) → length ss ≤ k → (ts : List ℕ) → [] ≡ get_or (get_or (strings_on (laid_out ss ts)) k []) l []
place_past ss k l h ts =
    ap (λ (y : List (List ℕ)). get_or y l [])
    (sym (get_or_past (strings_on (laid_out ss ts)) k [] (omega (arith, length-map (laid_out ss ts) (λ y. y.strings), length_laid ss ts))))

pub drop_laid : (n : ℕ) (ss : List Shape) (ts : List ℕ) → drop n (laid_out ss ts) ≡ laid_out (drop n ss) (drop (total (take n ss)) ts)
drop_laid zero ss ts = refl
drop_laid (suc n) [] ts = refl
drop_laid (suc n) (s ∷ ss) ts =
    drop_laid n ss (drop (size s.lengths) ts) ∙ ap (laid_out (drop n ss)) (drop-drop (total (take n ss)) (size s.lengths) ts)

pub take_laid : (n : ℕ) (ss : List Shape) (ts : List ℕ) → take n (laid_out ss ts) ≡ laid_out (take n ss) ts
take_laid zero ss ts = refl
take_laid (suc n) [] ts = refl
take_laid (suc n) (s ∷ ss) ts = ap (λ (ys : Yields). record { category = s.category; strings = cut s.lengths ts } ∷ ys) (take_laid n ss (drop (size s.lengths) ts))

pub cut_tokens : (l : Lengths) (ts : List ℕ) → size l ≤ length ts → tokens_in (cut l ts) ≡ size l
cut_tokens (One n) ts h = omega (arith, length-take-le n ts h)
cut_tokens (Two n m) ts h = omega (arith, length-take-le n ts (omega arith), length-take-le m (drop n ts) (omega (arith, length-drop n ts)))

pub tokens_laid : (ss : List Shape) (ts : List ℕ) → total ss ≤ length ts → tokens_on (laid_out ss ts) ≡ total ss
tokens_laid [] ts h = refl
tokens_laid (s ∷ ss) ts h =
    omega (arith, cut_tokens s.lengths ts (omega arith), tokens_laid ss (drop (size s.lengths) ts) (omega (arith, length-drop (size s.lengths) ts)))

-- one entry more before the end of a list
pub more_before : {X : Type 0} (xs old ys zs : List X) (d : X) (i : ℕ) → 0 < i → i ≤ length xs → zs ≡ get_or xs (i - 1) d ∷ ys → ys ≡ drop i xs ++ old → zs ≡ drop (i - 1) xs ++ old
more_before {X} xs old ys zs d i h k e f =
    let n : i - 1 + 1 ≡ i = omega arith in
    e
    ∙ ap (λ (ts : List X). get_or xs (i - 1) d ∷ ts) f
    ∙ ap (λ (ts : List X). ts ++ old) (sym (drop_more xs (i - 1) d (omega arith) ∙ ap (λ (m : ℕ). get_or xs (i - 1) d ∷ drop m xs) n))

pub all_before : {X : Type 0} (xs old ys : List X) (i : ℕ) → i ≤ 0 → ys ≡ drop i xs ++ old → ys ≡ xs ++ old
all_before xs old ys zero h e = e
all_before xs old ys (suc i) h e = absurd (omega arith)

-- the categories are tested one by one
pub fit_zip : (cs : List ℕ) (ss : List Shape) → length cs ≤ length ss → list_all (λ p. eqb p.1.category p.0) (zip cs ss) ≡ fit cs (categories ss)
fit_zip [] ss h = refl
fit_zip (c ∷ cs) [] h = absurd (omega arith)
fit_zip (c ∷ cs) (s ∷ ss) h = ap (λ b. eqb s.category c && b) (fit_zip cs ss (omega arith))
