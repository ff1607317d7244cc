-- The limits that a listed code keeps.
use Rattle.std.proofs.Common.{◌≡◌, ℕ, zero, suc, ◌≤◌, List, [], ◌∷◌, length, get_or, vec_items, refl, ap, inl, inr, arith, w16, Fits}
use Rattle.terms.specs.declared.row.Row.{Row}
use Rattle.terms.specs.declared.row.Row.TheVariants.{Check, Generator}
use Rattle.sets.specs.Lists.{In}
use Rattle.listed.specs.declared.Listed.{Listed}
use Rattle.listed.specs.OfListed.{told_of}
use Rattle.listed.specs.Sound.{Limits, limits}

pub limits_of : (c : Listed) → Limits c.checks c.generators (vec_items c.sides)
limits_of c = limits c.checks c.generators (vec_items c.sides) c.ok

short : (rows : List (List ℕ)) → ((row : List ℕ) → In row rows → length row ≤ 16) → (k : ℕ) → length (get_or rows k []) ≤ 16
short [] h k = omega arith
short (r ∷ rows) h zero = h r (inl refl)
short (r ∷ rows) h (suc k) = short rows (λ row m. h row (inr m)) k

-- a row has at most 16 qubits
short_of : (c : Listed) (r : Row) → length (told_of c r) ≤ 16
unfolding told_of
short_of c (Check k) = short c.checks (limits_of c).short_checks k
short_of c (Generator k) = short c.generators (limits_of c).short_generators k

pub row_fits : (c : Listed) (r : Row) (row : List ℕ) → row ≡ told_of c r → Fits w16 (length row)
row_fits c r row e = omega (arith, short_of c r, ap length e)
