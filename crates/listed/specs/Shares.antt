-- Common numbers of two lists.
use Rattle.std.specs.Prelude.{ℕ, Bool, false, List, [], ◌∷◌, map}
use Rattle.sets.specs.Bits.{flip}
use Rattle.sets.specs.Sets.{any, among}

-- whether an odd number of the first row's places name a number of the second row
abbrev pub shares_odd : List ℕ → List ℕ → Bool
shares_odd [] g = false
shares_odd (q ∷ c) g = flip (among q g) (shares_odd c g)

-- whether the row does so with one of several rows
abbrev pub shares_odd_with : List (List ℕ) → List ℕ → Bool
shares_odd_with generators c = any (map (shares_odd c) generators)
