-- One command on a stack whose tokens lie end to end.
use Rattle.std.proofs.Common.{◌≡◌, ℕ, ◌+◌, ◌<◌, ◌≤◌, true, false, List, [], ◌∷◌, map, length, take, drop, Some, None, Ok, Err, sym, ap, ◌∙◌, subst, ap₂, arith, length-drop}
use Rattle.grammar.specs.declared.symbol.Symbol.{Symbol}
use Rattle.grammar.specs.Grammars.{ProductionModel}
use Rattle.grammar.specs.Trees.{spell, tokens_in}
use Rattle.replay.specs.declared.pile.Pile.{Pile}
use Rattle.replay.specs.Stops.{stop_at}
use Rattle.replay.specs.Replays.{Yields, most_tokens, fit, put, categories_on, strings_on, tokens_on, perform}
use Rattle.replay.specs.Piles.{items}
use Rattle.replay.specs.Shapes.{Lengths, Shape, size, total, laid_out, Laid, StringsPut}
use Rattle.replay.specs.Stacks.{NoneEmpty}
use Rattle.replay.proofs.Laid.{categories, categories_laid, length_laid, take_laid, drop_laid, tokens_laid, total_front, cut_tokens}
use Rattle.replay.proofs.Tested.{perform_few, perform_other, perform_long, perform_put}

pub pile_most : {T : Type 0} {n : ℕ} (p : Pile T n) → length (items p) ≤ n
pile_most p = omega (arith, length-drop p.top p.cells, p.long, p.most)

-- no more yields than tokens
pub few_yields : (stack : Yields) → NoneEmpty stack → length stack ≤ tokens_on stack
few_yields [] h = omega arith
few_yields (y ∷ ys) h = omega (arith, h.0, few_yields ys h.1)

module _ (r : ProductionModel) (at : ℕ) (ss : List Shape) (ts : List ℕ) (whole : total ss ≡ length ts) where
  abbrev n : ℕ
  n = length r.arguments

  abbrev stack : Yields
  stack = laid_out ss ts

  -- the tokens behind those of the arguments
  abbrev pub behind : List ℕ
  behind = drop (total (take n ss)) ts

  behind_long : total (drop n ss) ≡ length behind
  behind_long = omega (arith, length-drop (total (take n ss)) ts, total_front ss n, whole)

  put_tokens : tokens_on (put r stack) ≡ tokens_in (map (spell (strings_on (take n stack))) r.constituents) + length behind
  put_tokens =
      omega (
        arith,
        ap tokens_on (drop_laid n ss ts),
        tokens_laid (drop n ss) behind (omega (arith, behind_long)),
        behind_long,
      )

  -- what the code holds for these
  module _ (arguments : List ℕ) (shapes : List Shape) (a-is : arguments ≡ r.arguments) (s-is : shapes ≡ ss) where
    pub too_few : length shapes < length arguments → perform r at stack ≡ Err (stop_at 14 at)
    too_few h = perform_few r at stack (omega (arith, length_laid ss ts, ap length a-is, ap length s-is))

    pub enough_of : length arguments ≤ length shapes → n ≤ length stack
    enough_of h = omega (arith, length_laid ss ts, ap length a-is, ap length s-is)

    fit_is : fit arguments (categories shapes) ≡ fit r.arguments (categories_on stack)
    fit_is = ap₂ (λ a s. fit a (categories s)) a-is s-is ∙ ap (fit r.arguments) (sym (categories_laid ss ts))

    pub fits_of : true ≡ fit arguments (categories shapes) → fit r.arguments (categories_on stack) ≡ true
    fits_of e = sym (e ∙ fit_is)

    pub wrong_category : length arguments ≤ length shapes → false ≡ fit arguments (categories shapes) → perform r at stack ≡ Err (stop_at 15 at)
    wrong_category h e = perform_other r at stack (enough_of h) (sym (e ∙ fit_is))

    pub taken_total : total (take (length arguments) shapes) ≡ total (take n ss)
    taken_total =
        ap₂ (λ a s. total (take (length a) s)) a-is s-is

    pub taken_most : total (take (length arguments) shapes) ≤ length ts
    taken_most = omega (arith, taken_total, total_front ss n, whole)

    module _ (lent old : List ℕ) (constituents : List (List Symbol)) (sum : ℕ) (l-is : lent ≡ ts) (c-is : constituents ≡ r.constituents)
        (sum_is_lem : sum ≡ total (take (length arguments) shapes)) (o_is : old ≡ drop sum ts) where
      strings_are : strings_on (laid_out (take (length arguments) shapes) lent) ≡ strings_on (take n stack)
      strings_are =
          ap strings_on (ap₂ laid_out (ap₂ (λ (a : List ℕ) (s : List Shape). take (length a) s) a-is s-is) l-is ∙ sym (take_laid n ss ts))

      old_is : old ≡ behind
      old_is = o_is ∙ ap (λ k. drop k ts) (sum_is_lem ∙ taken_total)

      made_is : map (spell (strings_on (laid_out (take (length arguments) shapes) lent))) constituents ≡ map (spell (strings_on (take n stack))) r.constituents
      made_is = ap₂ (λ y c. map (spell y) c) strings_are c-is

      pub too_long : (after : List ℕ) → length arguments ≤ length shapes → true ≡ fit arguments (categories shapes)
          → StringsPut (strings_on (laid_out (take (length arguments) shapes) lent)) constituents old after None → perform r at stack ≡ Err (stop_at 16 at)
      too_long after h f g =
          perform_long r at stack (enough_of h) (fits_of f) (omega (arith, put_tokens, ap tokens_in made_is, ap length old_is, g))

      pub made_laid : (after : List ℕ) (l : Lengths) → StringsPut (strings_on (laid_out (take (length arguments) shapes) lent)) constituents old after (Some l)
          → Laid (map (spell (strings_on (take n stack))) r.constituents) behind after l
      made_laid after l g =
          subst (λ (o : List ℕ). Laid (map (spell (strings_on (take n stack))) r.constituents) o after l) old_is
          (subst (λ (s : List (List ℕ)). Laid s old after l) made_is g)

  -- the stack after the command
  module _ (after : List ℕ) (l : Lengths) (laid : Laid (map (spell (strings_on (take n stack))) r.constituents) behind after l) where
    pub after_whole : size l + total (drop n ss) ≡ length after
    after_whole = omega (arith, laid.longer, behind_long)

    after_tokens : tokens_on (put r stack) ≡ length after
    after_tokens =
        omega (arith, put_tokens, ap tokens_in (sym laid.front), cut_tokens l after (omega (arith, laid.longer)), laid.longer)

    pub after_few : length after ≤ most_tokens → NoneEmpty (put r stack) → length (drop n ss) < most_tokens
    after_few h e =
        omega (arith, few_yields (put r stack) e, after_tokens, ap length (drop_laid n ss ts), length_laid (drop n ss) behind)

    pub performed : (shapes : List Shape) → length after ≤ most_tokens → n ≤ length stack → fit r.arguments (categories_on stack) ≡ true
        → shapes ≡ record { category = r.category; lengths = l } ∷ drop n ss → perform r at stack ≡ Ok (laid_out shapes after)
    performed shapes h enough fits e =
        perform_put r at stack enough fits (omega (arith, after_tokens))
        ∙ ap {B = _} Ok (sym (ap (λ (s : List Shape). laid_out s after) e
        ∙ ap₂ (λ (s : List (List ℕ)) (ys : Yields). record { category = r.category; strings = s } ∷ ys) laid.front (ap (laid_out (drop n ss)) laid.behind ∙ sym (drop_laid n ss ts))))
