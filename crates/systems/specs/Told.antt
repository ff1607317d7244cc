-- What a system of a code is told and what it answers, by the list of its solutions.
use Rattle.std.specs.Prelude.{◌≡◌, ℕ, Bool, true, not, ◌&&◌, List, [], ◌∷◌, map, length, Some, None, Option, ◌==◌, nat_lt, slice_set}
use Rattle.sets.specs.Sets.{has, only}
use Rattle.meaning.specs.Meaning.{Meaning}
use Rattle.linear.specs.Field.{bits}
use Rattle.linear.specs.Compress.{expand}
use Rattle.rules.specs.Systems.{solutions, slack}

-- the set of those elements of k at whose places, in rising order, the list has true
abbrev pub spread : List Bool → List Bool → List Bool
spread = expand bits

-- no solution is found; or z is the first, and s the slack
abbrev pub Found : List (List Bool) → Option ℕ → List Bool → Type 0
Found found None z = found ≡ []
Found found (Some s) z = (others : List (List Bool)) × (found ≡ z ∷ others) × (slack found ≡ s)

-- whether c is a check of the code and none of the checks `among`
abbrev pub further : Meaning → List Bool → ℕ → Bool
further M among c = nat_lt c (length M.checks) && not (has among c)

-- whether the check c is free beside the checks `among`: some subset of the unknowns k is even on each of these and odd on c
abbrev pub free_beside : Meaning → List Bool → List Bool → ℕ → Bool
free_beside M k among c = not (length (solutions M.checks k (slice_set among c true) (only (length M.checks) c)) == 0)

-- which of several sets hold q
abbrev pub holding : List (List Bool) → ℕ → List Bool
holding sets q = map (λ s. has s q) sets

-- each element of m is one of k
abbrev pub AllIn : List Bool → List Bool → Type 0
AllIn m k = (c : ℕ) → has m c ≡ true → has k c ≡ true
