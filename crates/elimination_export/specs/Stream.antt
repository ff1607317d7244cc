-- A system as a stream of numbers: the unknowns of a check, then 65535 if it is odd or 65534 if it is even.
use Rattle.std.specs.Prelude.{◌≡◌, ℕ, zero, suc, ◌^◌, Bool, true, false, cond, List, [], ◌∷◌, length, replicate, ◌==◌, nat_lt}
use Rattle.linear.specs.Field.{bits}
use Rattle.linear.specs.System.{Row, solutions}
use Rattle.elimination.specs.Calls.{check, more}

-- one more unknown of a check; a number that is none is passed over
abbrev pub taken : Bool → ℕ → List Bool → List Bool
taken true place written = more bits written place true
taken false place written = written

-- the checks of a stream over n unknowns, where `written` stands at its beginning
abbrev pub rows_of : ℕ → List Bool → List ℕ → List (Row Bool)
rows_of n written [] = []
rows_of n written (w ∷ ws) = cond (nat_lt w 65534) (rows_of n (taken (nat_lt w n) w written) ws) (check written (w == 65535) ∷ rows_of n (replicate n false) ws)

-- what the number r says of the system
abbrev pub Says : List (List Bool) → ℕ → Type 0
Says found zero = Unit {0}
Says found (suc zero) = found ≡ []
Says found (suc (suc slack)) = length found ≡ 2 ^ slack

abbrev pub Tells : ℕ → List ℕ → ℕ → Type 0
Tells n checks r = Says (solutions bits (replicate n true) (rows_of n (replicate n false) checks)) r
