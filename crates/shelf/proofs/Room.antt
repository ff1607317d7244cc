-- One more or one fewer in a set: an entry that is put on closes its check, and one that is taken off opens it.
use Rattle.std.proofs.Common.{◌≡◌, ℕ, zero, suc, ◌<◌, Bool, true, false, List, [], ◌∷◌, length, set, refl, ap, arith}
use mathlib.Core.Bool.{false≢true}
use Rattle.sets.specs.Sets.{has, size}
use Rattle.sets.proofs.Bits.{clash}

pub size_on : (m : List Bool) (c : ℕ) → c < length m → has m c ≡ false → size (set m c true) ≡ suc (size m)
size_on [] c h e = absurd (omega arith)
size_on (true ∷ m) zero h e = absurd (clash refl e)
size_on (false ∷ m) zero h e = refl
size_on (true ∷ m) (suc c) h e = let h' : c < length m = omega arith in ap suc (size_on m c h' e)
size_on (false ∷ m) (suc c) h e = let h' : c < length m = omega arith in size_on m c h' e

pub size_off : (m : List Bool) (c : ℕ) → has m c ≡ true → suc (size (set m c false)) ≡ size m
size_off [] c e = absurd (false≢true e)
size_off (true ∷ m) zero e = refl
size_off (false ∷ m) zero e = absurd (false≢true e)
size_off (true ∷ m) (suc c) e = ap suc (size_off m c e)
size_off (false ∷ m) (suc c) e = size_off m c e
