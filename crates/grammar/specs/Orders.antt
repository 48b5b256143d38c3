-- Which of two trees comes earlier. Assumes nothing.
--   Earlier t u         t comes earlier than u
--   Exchanged a b t u   u is t with the tree b in one place of the tree a
use Rattle.std.specs.Prelude.{◌≡◌, ℕ, ◌<◌, ◌⊎◌, List, [], ◌∷◌}
use Rattle.grammar.specs.Trees.{Tree, Forest, node, more, commands}

-- where the two first differ, the first has the smaller number
abbrev pub Sooner : List ℕ → List ℕ → Type 0
Sooner [] ys = ⊥
Sooner (x ∷ xs) [] = ⊥
Sooner (x ∷ xs) (y ∷ ys) = (x < y) ⊎ ((x ≡ y) × Sooner xs ys)

-- the smaller production number where their commands first differ
abbrev pub Earlier : Tree → Tree → Type 0
Earlier t u = Sooner (commands t) (commands u)

mutual
  pub data Exchanged (a b : Tree) : Tree → Tree → Type 0 where
    here : Exchanged a b a b
    below : {p : ℕ} {ts us : Forest} → ExchangedIn a b ts us → Exchanged a b (node p ts) (node p us)

  pub data ExchangedIn (a b : Tree) : Forest → Forest → Type 0 where
    first : {t u : Tree} {ts : Forest} → Exchanged a b t u → ExchangedIn a b (more t ts) (more u ts)
    later : {t : Tree} {ts us : Forest} → ExchangedIn a b ts us → ExchangedIn a b (more t ts) (more t us)
