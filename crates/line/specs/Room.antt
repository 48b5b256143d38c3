-- How long a line can be.
--   room   the tokens that a line holds at most
use Rattle.std.specs.Prelude.{ℕ}

-- A line holds 0 to 15 tokens.
abbrev pub room : ℕ
room = 15
