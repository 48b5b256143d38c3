-- What the bytes of a pack say next, and which bytes are left. Assumes nothing.
--   Bytes p     every number of p is a byte
--   next_of p   the first command of the bytes p with the rest, or why there is none
--   bytes c     the bytes of the command c
--   size c      how many they are
--   closes c    whether c closes an open production
use Rattle.std.specs.Prelude.{ℕ, ◌+◌, ◌*◌, ◌/◌, ◌%◌, ◌<◌, Bool, true, false, cond, List, [], ◌∷◌, Ok, Err, Result, ◌==◌}
use Rattle.grammar.specs.Formed.{Each}
pub use Rattle.grammar.specs.declared.command.Command.{Command}
pub use Rattle.grammar.specs.declared.command.Operands.{Operands}
pub use Rattle.grammar.specs.declared.command.Command.TheVariants.{Kind, Category, Start, Production, Constituent, Token, Part, End}
pub use Rattle.grammar.specs.declared.command.Unread.{Unread}
pub use Rattle.grammar.specs.declared.command.Unread.TheVariants.{Incomplete, Unknown}

abbrev pub Bytes : List ℕ → Type 0
Bytes p = Each (λ b. b < 256) p

abbrev pub Next : Type 0
Next = Result (Command × List ℕ) Unread

-- a number of two bytes, the high one first
abbrev pub wide : ℕ → ℕ → ℕ
wide high low = high * 256 + low

-- a command with one operand byte
abbrev pub one : (ℕ → Command) → List ℕ → Next
one f [] = Err Incomplete
one f (a ∷ rest) = Ok (f a, rest)

-- with two
abbrev pub two : (ℕ → ℕ → Command) → List ℕ → Next
two f [] = Err Incomplete
two f (a ∷ []) = Err Incomplete
two f (a ∷ b ∷ rest) = Ok (f a b, rest)

-- with seven
abbrev pub seven : (ℕ → ℕ → ℕ → ℕ → ℕ → ℕ → ℕ → Command) → List ℕ → Next
seven f [] = Err Incomplete
seven f (a ∷ []) = Err Incomplete
seven f (a ∷ b ∷ []) = Err Incomplete
seven f (a ∷ b ∷ c ∷ []) = Err Incomplete
seven f (a ∷ b ∷ c ∷ d ∷ []) = Err Incomplete
seven f (a ∷ b ∷ c ∷ d ∷ e ∷ []) = Err Incomplete
seven f (a ∷ b ∷ c ∷ d ∷ e ∷ x ∷ []) = Err Incomplete
seven f (a ∷ b ∷ c ∷ d ∷ e ∷ x ∷ y ∷ rest) = Ok (f a b c d e x y, rest)

-- the operands of a PRODUCTION: its category, weight number, arity, and three arguments
abbrev pub operands : ℕ → ℕ → ℕ → ℕ → ℕ → ℕ → Operands
operands c w n x y z = record { category = c; weight = w; arity = n; first = x; second = y; third = z }

abbrev pub production_of : ℕ → ℕ → ℕ → ℕ → ℕ → ℕ → ℕ → Command
production_of c high low n x y z = Production (operands c (wide high low) n x y z)

abbrev pub token_of : ℕ → ℕ → Command
token_of high low = Token (wide high low)

-- eight bytes are commands, and each has its operands behind it
abbrev pub next_of : List ℕ → Next
next_of [] = Err Incomplete
next_of (op ∷ rest) =
    cond (op == 1) (one Kind rest)
    (cond (op == 2) (one Category rest)
    (cond (op == 3) (one Start rest)
    (cond (op == 4) (seven production_of rest)
    (cond (op == 5) (Ok (Constituent, rest))
    (cond (op == 6) (two token_of rest)
    (cond (op == 7) (two Part rest)
    (cond (op == 8) (Ok (End, rest))
    (Err Unknown))))))))

abbrev pub size : Command → ℕ
size (Kind k) = 2
size (Category x) = 2
size (Start x) = 2
size (Production o) = 8
size Constituent = 1
size (Token t) = 3
size (Part k l) = 3
size End = 1

abbrev pub is_end : Command → Bool
is_end (Kind k) = false
is_end (Category x) = false
is_end (Start x) = false
is_end (Production o) = false
is_end Constituent = false
is_end (Token t) = false
is_end (Part k l) = false
is_end End = true

-- an open production is closed by the next PRODUCTION, or by END
abbrev pub closes : Command → Bool
closes (Kind k) = false
closes (Category x) = false
closes (Start x) = false
closes (Production o) = true
closes Constituent = false
closes (Token t) = false
closes (Part k l) = false
closes End = true

abbrev pub bytes : Command → List ℕ
bytes (Kind k) = 1 ∷ k ∷ []
bytes (Category x) = 2 ∷ x ∷ []
bytes (Start x) = 3 ∷ x ∷ []
bytes (Production o) = 4 ∷ o.category ∷ o.weight / 256 ∷ o.weight % 256 ∷ o.arity ∷ o.first ∷ o.second ∷ o.third ∷ []
bytes Constituent = 5 ∷ []
bytes (Token t) = 6 ∷ t / 256 ∷ t % 256 ∷ []
bytes (Part k l) = 7 ∷ k ∷ l ∷ []
bytes End = 8 ∷ []
