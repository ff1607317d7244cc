-- Sets read crosswise.
use Rattle.std.specs.Prelude.{ℕ, Bool, List, map}
use Rattle.std.specs.List.{range_with_len}
use Rattle.sets.specs.Sets.{has, elements}

-- the numbers of the sets that hold q, rising
abbrev pub holders_of : List (List Bool) → ℕ → List ℕ
holders_of sets q = elements (map (λ s. has s q) sets)

-- the same for each number below n
abbrev pub columns : ℕ → List (List Bool) → List (List ℕ)
columns n sets = map (holders_of sets) (range_with_len 0 n)
