-- What a slice of bytes holds is bytes.
use Rattle.std.proofs.Common.{ℕ, zero, suc, ◌<◌, List, [], ◌∷◌, get_or, w8, Fits}
use Rattle.grammar.specs.Commands.{Bytes}

fits_byte : (n : ℕ) → Fits w8 n → n < 256
fits_byte n h = h.fits

pub typed_bytes : (p : List ℕ) → ((i : ℕ) → Fits w8 (get_or p i 0)) → Bytes p
typed_bytes [] h = tt
typed_bytes (b ∷ bs) h = (fits_byte b (h zero), typed_bytes bs (λ i. h (suc i)))
