-- A command list run from its end: what a command gives is what the whole gives.
use Rattle.std.proofs.Common.{◌≡◌, ℕ, ◌+◌, ◌-◌, ◌%◌, ◌<◌, ◌≤◌, true, ltb, List, [], ◌∷◌, ◌++◌, map, length, get_or, take, drop, Some, None, Ok, Err, Result, Option, MatchResult, sym, refl, ap, ◌∙◌, subst, ap₂, append_assoc, arith, length-append}
use Rattle.std.specs.Option.{ok_or}
use Rattle.std.proofs.lemmas.List.{get_or-map, length-map, take-append-drop}
use Rattle.std.proofs.lemmas.Bool.{eq-eqb, lt-ltb, le-ltb}
use Rattle.grammar.specs.declared.production.Production.{Production}
use Rattle.grammar.specs.Grammars.{ProductionModel, GrammarModel, production, no_production}
use Rattle.grammar.specs.Held.{production_model}
use Rattle.grammar.specs.Formed.{Each, OneOrTwo, WellFormed}
use Rattle.grammar.specs.Commands.{Bytes, wide}
use Rattle.grammar.specs.Trees.{command_byte}
use Rattle.replay.specs.Stops.{Stop, stop_at}
use Rattle.replay.specs.Replays.{Yields, and_then, fit, put, categories_on, perform, command, run}
use Rattle.replay.specs.Stacks.{NoneEmpty, Names, Unnamed, does}
use Rattle.replay.proofs.Tested.{need_met, need_not}
use Rattle.replay.proofs.Sound.{constituents_few, none_empty, stand_put, run_ran}

-- the production of a command, as it is held
module _ (g : GrammarModel) (bytes : List ℕ) (at : ℕ) where
  module _ (ps : List Production) (held : map production_model ps ≡ g.productions) (byte : get_or bytes 0 0 ≡ command_byte)
      (n : ℕ) (n-is : n ≡ wide (get_or bytes 1 0) (get_or bytes 2 0)) where
    many : length g.productions ≡ length ps
    many = ap length (sym held) ∙ length-map ps production_model

    pub unknown : length ps ≤ n → Unnamed g bytes at (stop_at 13 at)
    unknown h stack =
        let q : ℕ = wide (get_or bytes 1 0) (get_or bytes 2 0) in
        let past : length g.productions ≤ q = omega (arith, many) in
        need_met _ 12 at _ (eq-eqb _ _ byte) ∙ need_not (ltb q (length g.productions)) 13 at _ (le-ltb q (length g.productions) past)

    pub names : (x : Production) → n < length ps → x ≡ get_or ps n x → Names g bytes at (production_model x)
    names x h x-is =
        let q : ℕ = wide (get_or bytes 1 0) (get_or bytes 2 0) in
        let known : q < length g.productions = omega (arith, many) in
        let is : production g n ≡ production_model x =
        ap (λ (rs : List ProductionModel). get_or rs n no_production) (sym held) ∙ get_or-map production_model ps n x no_production h ∙ ap production_model (sym x-is) in
        record {
          number = n;
          known = omega (arith, many);
          held = is;
          performs = λ stack. need_met _ 12 at _ (eq-eqb _ _ byte) ∙ need_met (ltb q (length g.productions)) 13 at _ (lt-ltb q (length g.productions) known)
              ∙ ap (λ (q : ℕ). perform (production g q) at stack) (sym n-is) ∙ ap (λ (r : ProductionModel). perform r at stack) is;
        }

pub match_ok_or : {X E : Type 0} (o : Option X) (e : E) (P : X → Type 0) (Q : E → Type 0) → ((x : X) → o ≡ Some x → P x) → (o ≡ None → Q e) → MatchResult (ok_or o e) P Q
match_ok_or None e P Q f h = h refl
match_ok_or (Some x) e P Q f h = f x refl

each_behind : (P : ℕ → Type 0) (xs ys : List ℕ) → Each P (xs ++ ys) → Each P ys
each_behind P [] ys h = h
each_behind P (x ∷ xs) ys h = each_behind P xs ys h.1

module _ (g : GrammarModel) where
  -- a stop of what is left is the stop of the whole
  pub stops_behind : (at : ℕ) (before list : List ℕ) (o : Stop) → length before % 3 ≡ 0 → run g (at + length before) list ≡ Err o → run g at (before ++ list) ≡ Err o
  stops_behind at [] list o w e = let z : at + 0 ≡ at = omega arith in ap (λ (n : ℕ). run g n list) (sym z) ∙ e
  stops_behind at (a ∷ []) list o w e = absurd (omega arith)
  stops_behind at (a ∷ b ∷ []) list o w e = absurd (omega arith)
  stops_behind at (a ∷ b ∷ c ∷ before) list o w e =
      let n : at + 3 + length before ≡ at + length (a ∷ b ∷ c ∷ before) = omega arith in
      ap (λ (r : Result Yields Stop). and_then r (command g at a b c))
      (stops_behind (at + 3) before list o (omega arith) (ap (λ (m : ℕ). run g m list) n ∙ e))

  one_command : (at : ℕ) (bytes later : List ℕ) (stack : Yields) → length bytes ≡ 3 → run g (at + 3) later ≡ Ok stack → run g at (bytes ++ later) ≡ does g bytes at stack
  one_command at [] later stack n e = absurd (omega arith)
  one_command at (a ∷ []) later stack n e = absurd (omega arith)
  one_command at (a ∷ b ∷ []) later stack n e = absurd (omega arith)
  one_command at (a ∷ b ∷ c ∷ []) later stack n e = ap (λ (r : Result Yields Stop). and_then r (command g at a b c)) e
  one_command at (a ∷ b ∷ c ∷ d ∷ bytes) later stack n e = absurd (omega arith)

  module _ (list rest later : List ℕ) (stack : Yields) (whole : list ≡ rest ++ later) (ran : run g (length rest) later ≡ Ok stack) where
    -- what performing the production asks for
    pub can_perform : WellFormed g → Bytes list → length list % 3 ≡ 0 → length rest % 3 ≡ 0 → (at : ℕ) (bytes : List ℕ) (r : ProductionModel) → Names g bytes at r
        → OneOrTwo (length r.constituents) × (fit r.arguments (categories_on stack) ≡ true → NoneEmpty (put r stack))
    can_perform well typed third w at bytes r names = (
      subst (λ (q : ProductionModel). OneOrTwo (length q.constituents)) names.held (constituents_few g well names.number names.known),
      subst (λ (q : ProductionModel). fit q.arguments (categories_on stack) ≡ true → NoneEmpty (put q stack)) names.held filled,
    )
      where
        filled : fit (production g names.number).arguments (categories_on stack) ≡ true → NoneEmpty (put (production g names.number) stack)
        filled f =
            let ran-is = run_ran g (length rest) later stack (each_behind (λ b. b < 256) rest later (subst Bytes whole typed))
            (omega (arith, ap length whole, length-append rest later)) ran in
            let put_on = stand_put g names.number ran-is.forest stack names.known ran-is.stands f in
            none_empty g well put_on.forest (put (production g names.number) stack) put_on.stands

  -- the commands behind the rest have been run, and its last one is next
  module _ (list rest later before bytes : List ℕ) (stack : Yields) (whole : list ≡ rest ++ later) (ran : run g (length rest) later ≡ Ok stack)
      (front : before ≡ take (length rest - 3) rest) (last : bytes ≡ drop (length rest - 3) rest) (less : length before + 3 ≡ length rest) where
    parted : rest ≡ before ++ bytes
    parted = sym (take-append-drop (length rest - 3) rest) ∙ sym (ap₂ (λ (a b : List ℕ). a ++ b) front last)

    -- where it stands, and what it does to the stack
    pub next_is : (list ≡ before ++ (bytes ++ later)) × (run g (length before) (bytes ++ later) ≡ does g bytes (length before) stack)
    next_is = (
      whole ∙ ap (λ (a : List ℕ). a ++ later) parted ∙ append_assoc before bytes later,
      one_command (length before) bytes later stack (omega (arith, ap length parted, length-append before bytes)) (ap (λ (n : ℕ). run g n later) less ∙ ran),
    )

    pub next_stops : (o : Stop) → length rest % 3 ≡ 0 → does g bytes (length before) stack ≡ Err o → run g 0 list ≡ Err o
    next_stops o w e =
        ap (run g 0) next_is.0 ∙ stops_behind 0 before (bytes ++ later) o (omega arith) (ap (λ (n : ℕ). run g n (bytes ++ later)) zero_on ∙ next_is.1 ∙ e)
      where
        zero_on : 0 + length before ≡ length before
        zero_on = omega arith
