-- What replaying means, for every command list. Assumes nothing.
--   Says g list phrase                     the list is the commands of a tree that yields the phrase
--   Lists g list cs                        the list is the commands of trees of the categories cs, one after the other
--   Gives o r before after                 the answer r, and the output from before to after, are what the outcome o says
--   Replayed g list before after r         the law of the answer r, which turned the output from before to after
use Rattle.std.specs.Prelude.{◌≡◌, ℕ, ◌<◌, ◌≤◌, ◌↔◌, List, [], ◌∷◌, ◌++◌, length, drop, Ok, Err, Result, ◌≢◌}
use Rattle.grammar.specs.Grammars.{GrammarModel}
use Rattle.grammar.specs.Trees.{Tree, Forest, TreeIn, TreesIn, yield, yields, tokens_in_all, commands, all_commands, command_bytes}
use Rattle.replay.specs.Stops.{ReplayStop, Stop, stop_at, told}
use Rattle.replay.specs.Replays.{most_tokens}

-- a tree of the start category that yields the phrase, of no more tokens than the stack may hold
pub record Says (g : GrammarModel) (list phrase : List ℕ) : Type 0 where
  pub tree : Tree
  pub of_start : TreeIn g g.start tree
  pub listed : command_bytes (commands tree) ≡ list
  pub yields : yield g tree ≡ phrase ∷ []
  pub short : length phrase ≤ most_tokens

-- trees of these categories, which together yield no more tokens than the stack may hold
pub record Lists (g : GrammarModel) (list cs : List ℕ) : Type 0 where
  pub trees : Forest
  pub in_order : TreesIn g cs trees
  pub listed : command_bytes (all_commands trees) ≡ list
  pub short : tokens_in_all (yields g trees) ≤ most_tokens

-- the answer is the phrase's length, the phrase stands at the front of the output, and the rest is as it was
pub record Written (phrase : List ℕ) (n : ℕ) (before after : List ℕ) : Type 0 where
  pub many : n ≡ length phrase
  pub output : after ≡ phrase ++ drop n before

-- what the definition gives is what is answered; a stop leaves the output as it was
abbrev pub Gives : Result (List ℕ) Stop → Result ℕ ReplayStop → List ℕ → List ℕ → Type 0
Gives o (Ok n) before after = (phrase : List ℕ) × (o ≡ Ok phrase) × Written phrase n before after
Gives o (Err e) before after = (o ≡ Err (told e)) × (after ≡ before)

-- the answer is this phrase
abbrev pub Answers : Result ℕ ReplayStop → List ℕ → List ℕ → List ℕ → Type 0
Answers (Ok n) phrase before after = Written phrase n before after
Answers (Err e) phrase before after = ⊥

-- the answer is this stop
abbrev pub StopsBy : Result ℕ ReplayStop → Stop → Type 0
StopsBy (Ok n) o = ⊥
StopsBy (Err e) o = told e ≡ o

pub record Replayed (g : GrammarModel) (list before after : List ℕ) (r : Result ℕ ReplayStop) : Type 0 where
  -- it answers with the phrase exactly when the list says it, and the output has room for it
  pub answers : (phrase : List ℕ) → Answers r phrase before after ↔ (Says g list phrase × (length phrase ≤ length before))
  -- it finds another number of yields exactly when the list is the commands of as many trees
  pub not_one : (n : ℕ) → StopsBy r (stop_at 17 n) ↔ ((cs : List ℕ) × Lists g list cs × (length cs ≡ n) × (n ≢ 1))
  -- it finds another category exactly when the list is the commands of a tree of that category
  pub not_start : (c : ℕ) → StopsBy r (stop_at 18 c) ↔ (Lists g list (c ∷ []) × (c ≢ g.start))
  -- it wants room exactly when the list says a phrase that the output has no room for
  pub no_room : (n : ℕ) → StopsBy r (stop_at 19 n) ↔ ((phrase : List ℕ) × Says g list phrase × (length phrase ≡ n) × (length before < n))
