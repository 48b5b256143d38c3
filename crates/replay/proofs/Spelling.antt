-- Strings put on the tokens from the last symbol to the first.
use Rattle.std.proofs.Common.{◌≡◌, ℕ, zero, suc, ◌+◌, ◌-◌, ◌<◌, ◌≤◌, false, leb, List, [], ◌∷◌, ◌++◌, map, length, get_or, take, drop, Some, None, sym, ap, ◌∙◌, subst, ap₂, append_assoc, arith, length-append}
use Rattle.std.proofs.lemmas.List.{at_drop_more, drop_all, take_at, drop_at}
use Rattle.std.proofs.lemmas.Bool.{leb-false}
use Rattle.grammar.specs.declared.symbol.Symbol.{Symbol}
use Rattle.grammar.specs.declared.symbol.Symbol.TheVariants as symbol
use Rattle.grammar.specs.declared.row.Row.{Row}
use Rattle.grammar.specs.Entries.{entries}
use Rattle.grammar.specs.Trees.{piece, spell, tokens_in}
use Rattle.replay.specs.Replays.{most_tokens}
use Rattle.replay.specs.Shapes.{One, Two, Laid, StringPut, StringsPut}

abbrev pub no_symbol : Symbol
no_symbol = symbol.Token 0

module _ (ys : List (List (List ℕ))) (ss : List Symbol) (old now : List ℕ) (i : ℕ) (some : 0 < i) (in_range : i ≤ length ss) (held : now ≡ spell ys (drop i ss) ++ old) where
  spell_before : spell ys (drop (i - 1) ss) ≡ piece ys (get_or ss (i - 1) no_symbol) ++ spell ys (drop i ss)
  spell_before =
      let n : i - 1 + 1 ≡ i = omega arith in
      at_drop_more (spell ys) ss (i - 1) no_symbol (omega arith) ∙ ap (λ (m : ℕ). piece ys (get_or ss (i - 1) no_symbol) ++ spell ys (drop m ss)) n

  pub spell_on : (after : List ℕ) → after ≡ piece ys (get_or ss (i - 1) no_symbol) ++ now → after ≡ spell ys (drop (i - 1) ss) ++ old
  spell_on after e =
      e
      ∙ ap (λ (ts : List ℕ). piece ys (get_or ss (i - 1) no_symbol) ++ ts) held
      ∙ sym (append_assoc (piece ys (get_or ss (i - 1) no_symbol)) (spell ys (drop i ss)) old)
      ∙ ap (λ (ts : List ℕ). ts ++ old) (sym spell_before)

  pub spell_over : false ≡ leb (length (piece ys (get_or ss (i - 1) no_symbol)) + length now) most_tokens → most_tokens < length (spell ys ss) + length old
  spell_over e =
      omega (
        arith,
        leb-false _ _ (sym e),
        ap length held,
        length-append (spell ys (drop i ss)) old,
        ap length spell_before,
        length-append (piece ys (get_or ss (i - 1) no_symbol)) (spell ys (drop i ss)),
        shorter ss (i - 1),
      )
    where
      shorter : (rs : List Symbol) (n : ℕ) → length (spell ys (drop n rs)) ≤ length (spell ys rs)
      shorter [] zero = omega arith
      shorter [] (suc n) = omega arith
      shorter (r ∷ rs) zero = omega arith
      shorter (r ∷ rs) (suc n) = omega (arith, shorter rs n, length-append (piece ys r) (spell ys rs))

pub spell_none : (ys : List (List (List ℕ))) (ss : List Symbol) (old : List ℕ) → old ≡ spell ys (drop (length ss) ss) ++ old
spell_none ys ss old = ap (λ (x : List Symbol). spell ys x ++ old) (sym (drop_all (length ss) ss (omega arith)))

pub spell_all : (ys : List (List (List ℕ))) (ss : List Symbol) (old now : List ℕ) (i : ℕ) → i ≤ 0 → now ≡ spell ys (drop i ss) ++ old → now ≡ spell ys ss ++ old
spell_all ys ss old now zero h e = e
spell_all ys ss old now (suc i) h e = absurd (omega arith)

-- one string, and two
pub one_laid : (a old after : List ℕ) (n : ℕ) → n ≡ length a → after ≡ a ++ old → Laid (a ∷ []) old after (One n)
one_laid a old after n e f = record {
  front = ap (λ s. s ∷ []) (ap (take n) f ∙ take_at a old n (sym e));
  behind = ap (drop n) f ∙ drop_at a old n (sym e);
  longer = omega (arith, ap length f, length-append a old);
}

pub two_laid : (a b old mid after : List ℕ) (n m : ℕ) → n ≡ length a → m ≡ length b → mid ≡ b ++ old → after ≡ a ++ mid → Laid (a ∷ b ∷ []) old after (Two n m)
two_laid a b old mid after n m e f g h = record {
  front = ap₂ (λ s t. s ∷ t ∷ []) (ap (take n) h ∙ take_at a mid n (sym e)) (ap (take m) (ap (drop n) h ∙ drop_at a mid n (sym e) ∙ g) ∙ take_at b old m (sym f));
  behind = ap (drop (n + m)) (h ∙ ap (λ (x : List ℕ). a ++ x) g ∙ sym (append_assoc a b old))
      ∙ drop_at (a ++ b) old (n + m) (omega (arith, length-append a b));
  longer = omega (arith, ap length h, ap length g, length-append a mid, length-append b old);
}

module _ (ys : List (List (List ℕ))) (cs : List (Row Symbol 8)) (old : List ℕ) where
  module _ (x : Row Symbol 8) (ss : List Symbol) (one : length cs ≡ 1) (at : x ≡ get_or cs 0 x) (is : ss ≡ entries x) where
    one_string : map (spell ys) (map entries cs) ≡ spell ys ss ∷ []
    one_string = go cs one at
      where
        go : (rs : List (Row Symbol 8)) → length rs ≡ 1 → x ≡ get_or rs 0 x → map (spell ys) (map entries rs) ≡ spell ys ss ∷ []
        go [] n e = absurd (omega arith)
        go (r ∷ []) n e = ap (λ u. spell ys u ∷ []) (ap entries (sym e) ∙ sym is)
        go (r ∷ q ∷ rs) n e = absurd (omega arith)

    pub put_one : (after : List ℕ) (n : ℕ) → StringPut ys ss old after (Some n) → StringsPut ys (map entries cs) old after (Some (One n))
    put_one after n h = subst (λ (strings : List (List ℕ)). Laid strings old after (One n)) (sym one_string) (one_laid (spell ys ss) old after n h.0 h.1)

    pub over_one : (after more : List ℕ) → StringPut ys ss old after None → StringsPut ys (map entries cs) old more None
    over_one after more h = omega (arith, ap tokens_in one_string, h)

  module _ (x y : Row Symbol 8) (ss rs : List Symbol) (two : length cs ≡ 2) (at : x ≡ get_or cs 0 x) (at_next : y ≡ get_or cs 1 y) (is : ss ≡ entries x) (is-next : rs ≡ entries y) where
    two_strings : map (spell ys) (map entries cs) ≡ spell ys ss ∷ spell ys rs ∷ []
    two_strings = go cs two at at_next
      where
        go : (qs : List (Row Symbol 8)) → length qs ≡ 2 → x ≡ get_or qs 0 x → y ≡ get_or qs 1 y → map (spell ys) (map entries qs) ≡ spell ys ss ∷ spell ys rs ∷ []
        go [] n e f = absurd (omega arith)
        go (q ∷ []) n e f = absurd (omega arith)
        go (q ∷ r ∷ []) n e f = ap₂ (λ u v. spell ys u ∷ spell ys v ∷ []) (ap entries (sym e) ∙ sym is) (ap entries (sym f) ∙ sym is-next)
        go (q ∷ r ∷ s ∷ qs) n e f = absurd (omega arith)

    pub put_two : (mid after : List ℕ) (n m : ℕ) → StringPut ys rs old mid (Some m) → StringPut ys ss mid after (Some n) → StringsPut ys (map entries cs) old after (Some (Two n m))
    put_two mid after n m h k =
        subst (λ (strings : List (List ℕ)). Laid strings old after (Two n m)) (sym two_strings) (two_laid (spell ys ss) (spell ys rs) old mid after n m k.0 h.0 h.1 k.1)

    pub over_second : (mid after : List ℕ) → StringPut ys rs old mid None → StringsPut ys (map entries cs) old after None
    over_second mid after h = omega (arith, ap tokens_in two_strings, h)

    pub over_first : (mid after more : List ℕ) (m : ℕ) → StringPut ys rs old mid (Some m) → StringPut ys ss mid after None → StringsPut ys (map entries cs) old more None
    over_first mid after more m h k = omega (arith, ap tokens_in two_strings, ap length h.1, length-append (spell ys rs) old, k)
