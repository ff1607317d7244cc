-- How many of the qubits in question each row holds.
use Rattle.std.specs.Prelude.{ℕ, Bool, List, map, sum_by}
use Rattle.sets.specs.Sets.{meet, size}
use Rattle.rules.specs.States.{Entry}

-- for each set, how many elements of b it has
abbrev pub counts_in : List (List Bool) → List Bool → List ℕ
counts_in sets b = map (λ s. size (meet s b)) sets

-- how many members all entries of a shelf have together
abbrev pub shelf_size : List Entry → ℕ
shelf_size l = sum_by (λ e. size e.members) l
