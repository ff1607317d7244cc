-- What is promised of a list that names the elements of a set.
use Rattle.std.specs.Prelude.{◌≡◌, ℕ, Bool, false, List, length}
use Rattle.sets.specs.Sets.{has, size, among, repeats}

-- a list without repeats that names exactly the elements of a set is as long as the set is large
abbrev pub ToldOnce : Type 0
ToldOnce = (ns : List ℕ) (m : List Bool) → repeats ns ≡ false → ((q : ℕ) → among q ns ≡ has m q) → length ns ≡ size m
