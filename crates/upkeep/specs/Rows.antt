-- The qubits of a row, in the order told, that lie in a set.
use Rattle.std.specs.Prelude.{ℕ, Bool, true, cond, ◌&&◌, List, [], ◌∷◌, Some, None, Option}
use Rattle.sets.specs.Sets.{has}

-- the first of them
abbrev pub first_in : List Bool → List ℕ → Option ℕ
first_in m [] = None
first_in m (q ∷ row) = cond (has m q) (Some q) (first_in m row)

-- whether all do
abbrev pub all_in : List Bool → List ℕ → Bool
all_in m [] = true
all_in m (q ∷ row) = has m q && all_in m row
