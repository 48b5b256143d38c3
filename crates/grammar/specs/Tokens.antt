-- When two tokens count as the same: today, when their numbers are equal. Assumes nothing.
--   same_token a b   the test
--   SameToken a b    the two are the same
--   TokenLaws        it is an equivalence
use Rattle.std.specs.Prelude.{◌≡◌, ℕ, Bool, true, ◌==◌}

abbrev pub same_token : ℕ → ℕ → Bool
same_token a b = a == b

abbrev pub SameToken : ℕ → ℕ → Type 0
SameToken a b = same_token a b ≡ true

pub record TokenLaws : Type 0 where
  pub itself : (a : ℕ) → SameToken a a
  pub either_way : (a b : ℕ) → SameToken a b → SameToken b a
  pub onward : (a b c : ℕ) → SameToken a b → SameToken b c → SameToken a c
