-- Numbers as text. Assumes nothing.
--   read most v t     the number that v and then the digits t spell, if it is at most most
--   number_of most t  the number that the text t spells
use Rattle.std.specs.Prelude.{ℕ, ◌+◌, ◌-◌, ◌*◌, cond, ◌&&◌, List, [], ◌∷◌, Some, None, Option, nat_le}
use Rattle.std.specs.Char.{is_ascii_digit}

-- a digit more: ten times as much, and the digit
abbrev pub with_digit : ℕ → ℕ → ℕ
with_digit v c = v * 10 + (c - 48)

abbrev pub read : ℕ → ℕ → List ℕ → Option ℕ
read most v [] = Some v
read most v (c ∷ cs) = cond (is_ascii_digit c && nat_le (with_digit v c) most) (read most (with_digit v c) cs) None

abbrev pub number_of : ℕ → List ℕ → Option ℕ
number_of most [] = None
number_of most (c ∷ cs) = read most 0 (c ∷ cs)
