-- What has been run is the commands of trees, and the stack is their yields.
use Rattle.std.proofs.Common.{◌≡◌, ℕ, ◌+◌, ◌/◌, ◌%◌, ◌<◌, ◌≤◌, true, eqb, ltb, leb, List, [], ◌∷◌, ◌++◌, map, length, take, drop, Ok, sym, refl, ap, ◌∙◌, subst, ap₂, append_assoc, arith}
use mathlib.Core.Bool.{false≢true}
use Rattle.std.proofs.lemmas.List.{length-map}
use Rattle.std.proofs.lemmas.Bool.{and_parts, eqb-true, ltb-true, leb-true}
use Rattle.grammar.specs.Grammars.{GrammarModel, production}
use Rattle.grammar.specs.Formed.{OneOrTwo, WellFormed}
use Rattle.grammar.specs.Commands.{Bytes, wide}
use Rattle.grammar.specs.Trees.{Tree, Forest, node, empty, more, TreeIn, TreesIn, yield, yields, spell, tokens_in, commands, all_commands, command_byte, command_bytes}
use Rattle.grammar.proofs.Each.{each_at}
use Rattle.grammar.proofs.Yields.{Filled, production_at, yield_filled}
use Rattle.replay.specs.Replays.{Yields, most_tokens, fit, put, categories_on, strings_on, tokens_on, command, run}
use Rattle.replay.specs.Stacks.{NoneEmpty}
use Rattle.replay.proofs.Tested.{need_ok, then_ok, ok_same}

-- the stack is the yields of these trees, the first topmost
abbrev pub Stands : GrammarModel → Forest → Yields → Type 0
Stands g empty [] = Unit {0}
Stands g empty (y ∷ ys) = ⊥
Stands g (more t ts) [] = ⊥
Stands g (more t ts) (y ∷ ys) = TreeIn g y.category t × (y.strings ≡ yield g t) × Stands g ts ys

-- the trees of the arguments, and those below them
record Split (g : GrammarModel) (cs : List ℕ) (ts : Forest) (stack : Yields) : Type 0 where
  taken : Forest
  left : Forest
  trees : TreesIn g cs taken
  stands : Stands g left (drop (length cs) stack)
  listed : all_commands ts ≡ all_commands taken ++ all_commands left
  strings : strings_on (take (length cs) stack) ≡ yields g taken

split : (g : GrammarModel) (cs : List ℕ) (ts : Forest) (stack : Yields) → Stands g ts stack → fit cs (categories_on stack) ≡ true → Split g cs ts stack
split g [] ts stack s f = record { taken = empty; left = ts; trees = tt; stands = s; listed = refl; strings = refl }
split g (c ∷ cs) ts [] s f = absurd (false≢true f)
split g (c ∷ cs) empty (y ∷ ys) s f = absurd s
split g (c ∷ cs) (more t ts) (y ∷ ys) s f =
    let both = and_parts (eqb y.category c) (fit cs (categories_on ys)) f in
    let k = split g cs ts ys s.2 both.1 in
    record {
      taken = more t k.taken;
      left = k.left;
      trees = (subst (λ (d : ℕ). TreeIn g d t) (eqb-true y.category c both.0) s.0, k.trees);
      stands = k.stands;
      listed = ap (λ (w : List ℕ). commands t ++ w) k.listed ∙ sym (append_assoc (commands t) (all_commands k.taken) (all_commands k.left));
      strings = ap₂ (λ (u : List (List ℕ)) (us : List (List (List ℕ))). u ∷ us) s.1 k.strings;
    }

-- the stack after a command stands too
pub record Put (g : GrammarModel) (p : ℕ) (ts : Forest) (stack : Yields) : Type 0 where
  pub forest : Forest
  pub stands : Stands g forest (put (production g p) stack)
  pub listed : all_commands forest ≡ p ∷ all_commands ts

pub stand_put : (g : GrammarModel) (p : ℕ) (ts : Forest) (stack : Yields) → p < length g.productions → Stands g ts stack
    → fit (production g p).arguments (categories_on stack) ≡ true → Put g p ts stack
stand_put g p ts stack l s f =
    let k = split g (production g p).arguments ts stack s f in
    record {
      forest = more (node p k.taken) k.left;
      stands = ((l, refl, k.trees), ap (λ ys. map (spell ys) (production g p).constituents) k.strings, k.stands);
      listed = ap (λ (w : List ℕ). p ∷ w) (sym k.listed);
    }

filled_some : (y : List (List ℕ)) → 1 ≤ length y → Filled y → 1 ≤ tokens_in y
filled_some [] h f = absurd (omega arith)
filled_some (s ∷ ss) h f = omega (arith, f.0)

module _ (g : GrammarModel) (well : WellFormed g) where
  pub constituents_few : (p : ℕ) → p < length g.productions → OneOrTwo (length (production g p).constituents)
  constituents_few p l =
      let f = production_at g well p l in
      let d = each_at OneOrTwo g.dimensions (production g p).category 0 well.dimensions_formed f.category_known in
      record { least = omega (arith, f.constituents_many, d.least); most = omega (arith, f.constituents_many, d.most) }

  tree_some : (c : ℕ) (t : Tree) → TreeIn g c t → 1 ≤ tokens_in (yield g t)
  tree_some c (node p ts) w =
      filled_some (yield g (node p ts)) (omega (arith, length-map (production g p).constituents (spell (yields g ts)), (constituents_few p w.0).least)) (yield_filled g well c (node p ts) w)

  pub none_empty : (ts : Forest) (stack : Yields) → Stands g ts stack → NoneEmpty stack
  none_empty empty [] s = tt
  none_empty empty (y ∷ ys) s = absurd s
  none_empty (more t ts) [] s = absurd s
  none_empty (more t ts) (y ∷ ys) s =
      (subst (λ (strings : List (List ℕ)). 1 ≤ tokens_in strings) (sym s.1) (tree_some y.category t s.0), none_empty ts ys s.2)

-- what running these bytes has left
pub record Ran (g : GrammarModel) (bytes : List ℕ) (stack : Yields) : Type 0 where
  pub forest : Forest
  pub stands : Stands g forest stack
  pub listed : command_bytes (all_commands forest) ≡ bytes
  pub few : tokens_on stack ≤ most_tokens

command_ran : (g : GrammarModel) (at a b c : ℕ) (rest : List ℕ) (before stack : Yields) → b < 256 → c < 256 → Ran g rest before
    → command g at a b c before ≡ Ok stack → Ran g (a ∷ b ∷ c ∷ rest) stack
command_ran g at a b c rest before stack high low ran e =
    let p = wide b c in
    let h12 = need_ok (eqb a command_byte) 12 at _ stack e in
    let h13 = need_ok (ltb p (length g.productions)) 13 at _ stack h12.1 in
    let r = production g p in
    let h14 = need_ok (leb (length r.arguments) (length before)) 14 at _ stack h13.1 in
    let h15 = need_ok (fit r.arguments (categories_on before)) 15 at _ stack h14.1 in
    let h16 = need_ok (leb (tokens_on (put r before)) most_tokens) 16 at _ stack h15.1 in
    let same : put r before ≡ stack = ok_same _ (put r before) stack refl h16.1 in
    let next = stand_put g p ran.forest before (ltb-true p (length g.productions) h13.0) ran.stands h15.0 in
    let byte : command_byte ≡ a = sym (eqb-true a command_byte h12.0) in
    let quotient : p / 256 ≡ b = omega arith in
    let remainder : p % 256 ≡ c = omega arith in
    record {
      forest = next.forest;
      stands = subst (Stands g next.forest) same next.stands;
      listed = ap command_bytes next.listed ∙ joined byte quotient remainder ran.listed;
      few = subst (λ (s : Yields). tokens_on s ≤ most_tokens) same (leb-true (tokens_on (put r before)) most_tokens h16.0);
    }
  where
    joined : {a' b' c' a b c : ℕ} {r' r : List ℕ} → a' ≡ a → b' ≡ b → c' ≡ c → r' ≡ r → a' ∷ b' ∷ c' ∷ r' ≡ a ∷ b ∷ c ∷ r
    joined x y z w = cc

pub run_ran : (g : GrammarModel) (at : ℕ) (bytes : List ℕ) (stack : Yields) → Bytes bytes → length bytes % 3 ≡ 0 → run g at bytes ≡ Ok stack → Ran g bytes stack
run_ran g at [] stack b l e = subst (Ran g []) (ok_same _ [] stack refl e) (record { forest = empty; stands = tt; listed = refl; few = omega arith })
run_ran g at (x ∷ []) stack b l e = absurd (omega arith)
run_ran g at (x ∷ y ∷ []) stack b l e = absurd (omega arith)
run_ran g at (x ∷ y ∷ z ∷ rest) stack b l e =
    let h = then_ok (run g (at + 3) rest) (command g at x y z) stack e in
    command_ran g at x y z rest h.0 stack b.1.0 b.1.1.0 (run_ran g (at + 3) rest h.0 b.1.1.1 (omega arith) h.1) h.2
