-- The commands of trees leave their yields on the stack, if those have no more tokens than it may hold.
use Rattle.std.proofs.Common.{◌≡◌, ℕ, suc, ◌+◌, ◌/◌, ◌%◌, ◌≤◌, true, eqb, ltb, List, [], ◌∷◌, ◌++◌, map, length, take, drop, Ok, Result, sym, refl, ap, ◌∙◌, subst, append_assoc, arith, length-append}
use Rattle.std.proofs.lemmas.List.{take_at, drop_at}
use Rattle.std.proofs.lemmas.Bool.{and_from, eq-eqb, lt-ltb}
use Rattle.grammar.specs.Grammars.{GrammarModel, production}
use Rattle.grammar.specs.Formed.{WellFormed}
use Rattle.grammar.specs.Commands.{wide}
use Rattle.grammar.specs.Trees.{Tree, Forest, node, empty, more, TreeIn, TreesIn, yield, yields, spell, tokens_in, tokens_in_all, commands, all_commands, command_byte, command_bytes}
use Rattle.grammar.proofs.Growing.{yield_grows}
use Rattle.replay.specs.Stops.{Stop}
use Rattle.replay.specs.Replays.{Yields, most_tokens, and_then, fit, put, categories_on, strings_on, tokens_on, perform, command, run}
use Rattle.replay.proofs.Tested.{need_met, perform_put}

-- the yields of trees of these categories
abbrev pub stacked : GrammarModel → List ℕ → Forest → Yields
stacked g cs empty = []
stacked g [] (more t ts) = []
stacked g (c ∷ cs) (more t ts) = record { category = c; strings = yield g t } ∷ stacked g cs ts

module _ (g : GrammarModel) where
  pub stacked_length : (cs : List ℕ) (ts : Forest) → TreesIn g cs ts → length (stacked g cs ts) ≡ length cs
  stacked_length [] empty w = refl
  stacked_length [] (more t ts) w = absurd w
  stacked_length (c ∷ cs) empty w = absurd w
  stacked_length (c ∷ cs) (more t ts) w = ap suc (stacked_length cs ts w.1)

  stacked_strings : (cs : List ℕ) (ts : Forest) → TreesIn g cs ts → strings_on (stacked g cs ts) ≡ yields g ts
  stacked_strings [] empty w = refl
  stacked_strings [] (more t ts) w = absurd w
  stacked_strings (c ∷ cs) empty w = absurd w
  stacked_strings (c ∷ cs) (more t ts) w = ap (λ (ys : List (List (List ℕ))). yield g t ∷ ys) (stacked_strings cs ts w.1)

  stacked_fit : (cs : List ℕ) (ts : Forest) (stack : Yields) → TreesIn g cs ts → fit cs (categories_on (stacked g cs ts ++ stack)) ≡ true
  stacked_fit [] empty stack w = refl
  stacked_fit [] (more t ts) stack w = absurd w
  stacked_fit (c ∷ cs) empty stack w = absurd w
  stacked_fit (c ∷ cs) (more t ts) stack w = and_from (eqb c c) _ (eq-eqb c c refl) (stacked_fit cs ts stack w.1)

  stacked_tokens : (cs : List ℕ) (ts : Forest) (stack : Yields) → TreesIn g cs ts → tokens_on (stacked g cs ts ++ stack) ≡ tokens_in_all (yields g ts) + tokens_on stack
  stacked_tokens [] empty stack w = omega arith
  stacked_tokens [] (more t ts) stack w = absurd w
  stacked_tokens (c ∷ cs) empty stack w = absurd w
  stacked_tokens (c ∷ cs) (more t ts) stack w = omega (arith, stacked_tokens cs ts stack w.1)

bytes_append : (ps qs : List ℕ) → command_bytes (ps ++ qs) ≡ command_bytes ps ++ command_bytes qs
bytes_append [] qs = refl
bytes_append (p ∷ ps) qs = ap (λ (w : List ℕ). command_byte ∷ p / 256 ∷ p % 256 ∷ w) (bytes_append ps qs)

-- a tree's, and then those of the trees behind it
both : (t : Tree) (ts : Forest) (rest : List ℕ) → command_bytes (commands t ++ all_commands ts) ++ rest ≡ command_bytes (commands t) ++ (command_bytes (all_commands ts) ++ rest)
both t ts rest = ap (λ (w : List ℕ). w ++ rest) (bytes_append (commands t) (all_commands ts)) ∙ append_assoc (command_bytes (commands t)) (command_bytes (all_commands ts)) rest

-- wherever these bytes stand, they run to this stack
abbrev Runs : GrammarModel → List ℕ → Yields → Type 0
Runs g bytes stack = (at : ℕ) → run g at bytes ≡ Ok stack

module _ (g : GrammarModel) (well : WellFormed g) where
  -- the root's command, once its arguments are on the stack
  root_runs : (c p : ℕ) (ts : Forest) → TreeIn g c (node p ts) → (rest : List ℕ) (stack : Yields)
      → Runs g rest (stacked g (production g p).arguments ts ++ stack) → tokens_in (yield g (node p ts)) + tokens_on stack ≤ most_tokens
      → Runs g (command_byte ∷ p / 256 ∷ p % 256 ∷ rest) (record { category = c; strings = yield g (node p ts) } ∷ stack)
  root_runs c p ts w rest stack run-rest few at =
      let r = production g p in
      let args = r.arguments in
      let before : Yields = stacked g args ts ++ stack in
      let many = stacked_length g args ts w.2 in
      let number : wide (p / 256) (p % 256) ≡ p = omega arith in
      let strings : strings_on (take (length args) before) ≡ yields g ts = ap strings_on (take_at (stacked g args ts) stack (length args) many) ∙ stacked_strings g args ts w.2 in
      let below : drop (length args) before ≡ stack = drop_at (stacked g args ts) stack (length args) many in
      let after : put r before ≡ record { category = c; strings = yield g (node p ts) } ∷ stack =
      ap₃ (λ (k : ℕ) (ys : List (List (List ℕ))) (s : Yields). record { category = k; strings = map (spell ys) r.constituents } ∷ s) w.1 strings below in
      ap (λ (x : Result Yields Stop). and_then x (command g at command_byte (p / 256) (p % 256))) (run-rest (at + 3))
      ∙ ap (λ (q : ℕ). command_at q at before) number
      ∙ need_met (ltb p (length g.productions)) 13 at _ (lt-ltb p (length g.productions) w.0)
      ∙ perform_put r at before (omega (arith, many, length-append (stacked g args ts) stack)) (stacked_fit g args ts stack w.2) (omega (arith, ap tokens_on after))
      ∙ ap {B = Result Yields Stop} (λ (s : Yields). Ok s) after
    where
      command_at : ℕ → ℕ → Yields → Result Yields Stop
      command_at q at s = Rattle.replay.specs.Replays.need (ltb q (length g.productions)) 13 at (perform (production g q) at s)

      ap₃ : {A B C D : Type 0} (f : A → B → C → D) {a a' : A} {b b' : B} {c c' : C} → a ≡ a' → b ≡ b' → c ≡ c' → f a b c ≡ f a' b' c'
      ap₃ f x y z = cc

  mutual
    pub tree_runs : (c : ℕ) (t : Tree) → TreeIn g c t → (rest : List ℕ) (stack : Yields) → Runs g rest stack → tokens_in (yield g t) + tokens_on stack ≤ most_tokens
        → Runs g (command_bytes (commands t) ++ rest) (record { category = c; strings = yield g t } ∷ stack)
    tree_runs c (node p ts) w rest stack run-rest few =
        root_runs c p ts w (command_bytes (all_commands ts) ++ rest) stack
        (forest_runs (production g p).arguments ts w.2 rest stack run-rest (omega (arith, yield_grows g c p ts well w)))
        few

    pub forest_runs : (cs : List ℕ) (ts : Forest) → TreesIn g cs ts → (rest : List ℕ) (stack : Yields) → Runs g rest stack → tokens_in_all (yields g ts) + tokens_on stack ≤ most_tokens
        → Runs g (command_bytes (all_commands ts) ++ rest) (stacked g cs ts ++ stack)
    forest_runs [] empty w rest stack run-rest few = run-rest
    forest_runs [] (more t ts) w rest stack run-rest few = absurd w
    forest_runs (c ∷ cs) empty w rest stack run-rest few = absurd w
    forest_runs (c ∷ cs) (more t ts) w rest stack run-rest few =
        subst (λ (bytes : List ℕ). Runs g bytes (stacked g (c ∷ cs) (more t ts) ++ stack)) (sym (both t ts rest))
        (tree_runs c t w.0 (command_bytes (all_commands ts) ++ rest) (stacked g cs ts ++ stack)
        (forest_runs cs ts w.1 rest stack run-rest (omega arith)) (omega (arith, stacked_tokens g cs ts stack w.1)))
