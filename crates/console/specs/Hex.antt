-- Bytes as text. Assumes nothing.
--   digit_of c     the value of the hexadecimal digit c, in lower case
--   byte_of h l    the byte of two digits
--   bytes_of t     the bytes that the text t spells, a space in front of each
--   next_of t      the first of them, and the text behind it
use Rattle.std.specs.Prelude.{ℕ, ◌+◌, ◌-◌, ◌*◌, cond, ◌&&◌, List, [], ◌∷◌, Some, None, Option, ◌==◌, nat_le}

abbrev pub digit_of : ℕ → Option ℕ
digit_of c = cond (nat_le 48 c && nat_le c 57) (Some (c - 48)) (cond (nat_le 97 c && nat_le c 102) (Some (c - 87)) None)

abbrev pub paired : Option ℕ → Option ℕ → Option ℕ
paired None l = None
paired (Some h) None = None
paired (Some h) (Some l) = Some (h * 16 + l)

abbrev pub byte_of : ℕ → ℕ → Option ℕ
byte_of high low = paired (digit_of high) (digit_of low)

-- one byte in front of others, if there is one and there are others
abbrev pub fronted : Option ℕ → Option (List ℕ) → Option (List ℕ)
fronted None bs = None
fronted (Some b) None = None
fronted (Some b) (Some bs) = Some (b ∷ bs)

abbrev pub bytes_of : List ℕ → Option (List ℕ)
bytes_of [] = Some []
bytes_of (s ∷ []) = None
bytes_of (s ∷ h ∷ []) = None
bytes_of (s ∷ h ∷ l ∷ rest) = cond (s == 32) (fronted (byte_of h l) (bytes_of rest)) None

-- what a byte leaves of the text
abbrev pub with_rest : Option ℕ → List ℕ → Option (ℕ × List ℕ)
with_rest None rest = None
with_rest (Some b) rest = Some (b, rest)

abbrev pub next_of : List ℕ → Option (ℕ × List ℕ)
next_of [] = None
next_of (s ∷ []) = None
next_of (s ∷ h ∷ []) = None
next_of (s ∷ h ∷ l ∷ rest) = cond (s == 32) (with_rest (byte_of h l) rest) None
