-- What is wrong with a listed code, if anything: the first fault in a fixed order.
use Rattle.std.specs.Prelude.{ℕ, Bool, cond, ◌||◌, List, map, length, Some, None, Option, ◌==◌, nat_le, nat_lt}
use Rattle.terms.specs.declared.refusal.Refusal.{Refusal}
use Rattle.terms.specs.declared.refusal.Refusal.TheVariants.{OutsideLimits, QubitTooLarge, NotRising, LawFails}
use Rattle.sets.specs.Sets.{marks, any, odd, repeats}

-- the row has more than 16 numbers
abbrev pub too_long : List ℕ → Bool
too_long row = nat_lt 16 (length row)

-- the row names a number that is not below n
abbrev pub too_large : ℕ → List ℕ → Bool
too_large n row = any (map (nat_le n) row)

-- a check or a generator passes the test
abbrev pub some_row : (List ℕ → Bool) → List (List ℕ) → List (List ℕ) → Bool
some_row test checks generators = any (map test checks) || any (map test generators)

-- not 1 to 2048 sides, or more than 256 checks or generators
abbrev pub wrong_sizes : (checks generators sides : ℕ) → Bool
wrong_sizes checks generators sides = sides == 0 || nat_lt 2048 sides || nat_lt 256 checks || nat_lt 256 generators

-- wrong sizes, a row that is too long, or a side above 1
unfoldable pub outside_limits : (checks generators : List (List ℕ)) (sides : List ℕ) → Bool
outside_limits checks generators sides = wrong_sizes (length checks) (length generators) (length sides) || some_row too_long checks generators || any (map (nat_lt 1) sides)

-- some check and some generator share an odd number of the n qubits
abbrev pub law_fails : ℕ → List (List ℕ) → List (List ℕ) → Bool
law_fails n checks generators = any (map (λ c. any (map (λ g. odd (marks n c) (marks n g)) generators)) checks)

unfoldable pub listed_fault : (checks generators : List (List ℕ)) (sides : List ℕ) → Option Refusal
listed_fault checks generators sides =
    cond (outside_limits checks generators sides) (Some OutsideLimits)
    (cond (some_row (too_large (length sides)) checks generators) (Some QubitTooLarge)
    (cond (some_row repeats checks generators) (Some NotRising)
    (cond (law_fails (length sides) checks generators) (Some LawFails) None)))
