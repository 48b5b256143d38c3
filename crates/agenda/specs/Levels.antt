-- Entries of one rank, where an order goes by one part and then by another. Assumes nothing.
use Rattle.std.specs.Prelude.{◌≡◌, ℕ, false, refl}
use Rattle.std.proofs.Common.{Ordering, Less, Equal, Greater, is_lt, is_gt, nat_cmp, sym, ap}
use Rattle.std.proofs.lemmas.Bool.{both_ways}
use Rattle.std.proofs.lemmas.Cmp.{ranked}
use Rattle.std.specs.Ordering.{ordering_then}

-- Numbers of one rank are one.
pub nat_level : (x y : ℕ) → nat_cmp x y ≡ Equal → x ≡ y
nat_level x y h = ranked x y Equal (sym h)

-- Two parts are level where each is.
pub then_level : (a b : Ordering) → ordering_then a b ≡ Equal → (a ≡ Equal) × (b ≡ Equal)
then_level Less b h = absurd (both_ways false refl (sym (ap is_lt h)))
then_level Equal b h = (refl, h)
then_level Greater b h = absurd (both_ways false refl (sym (ap is_gt h)))
