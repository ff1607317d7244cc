-- Words of 32 bits as rows of a matrix.
use Rattle.std.specs.Prelude.{ℕ, zero, suc, ◌/◌, ◌%◌, Bool, List, [], ◌∷◌, ◌==◌, slice_index}
use Rattle.sets.specs.Sets.{has}

-- the lowest binary digits of a number, the lowest first
unfoldable pub digits : ℕ → ℕ → List Bool
digits zero w = []
digits (suc f) w = (w % 2 == 1) ∷ digits f (w / 2)

-- the places of a word that are 1, as a set
unfoldable pub ones : ℕ → List Bool
ones w = digits 32 w

-- whether the word numbered a is 1 at the place b
abbrev pub one_at : List ℕ → ℕ → ℕ → Bool
one_at words a b = has (ones (slice_index words a)) b
