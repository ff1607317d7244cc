-- A seed as it is given: its sizes and the places of its ones. When it is refused, and the matrix that it is.
use Rattle.std.specs.Prelude.{ℕ, Bool, true, false, cond, ◌&&◌, ◌||◌, List, [], ◌∷◌, map, Some, None, Option, ◌==◌, nat_le, nat_lt}
use Rattle.std.specs.List.{range_with_len, list_any}
use Rattle.terms.specs.declared.refusal.Refusal.{Refusal}
use Rattle.terms.specs.declared.refusal.Refusal.TheVariants.{OutsideLimits, NotRising}
use Rattle.product.specs.declared.place.Place.{Place}
use Rattle.product.specs.declared.seed.Seed.{Seed}

-- whether a number of rows or of columns is outside 1 to 32
abbrev pub size_outside : ℕ → Bool
size_outside k = nat_lt k 1 || nat_lt 32 k

-- whether a place lies outside r rows and n columns, and whether some place of a list does
abbrev pub outside : ℕ → ℕ → Place → Bool
outside r n p = nat_le r p.row || nat_le n p.column

abbrev pub some_outside : ℕ → ℕ → List Place → Bool
some_outside r n l = list_any (outside r n) l

-- whether p comes before q, by row and then by column
abbrev pub before : Place → Place → Bool
before p q = nat_lt p.row q.row || (p.row == q.row && nat_lt p.column q.column)

-- whether each place of the list comes after the one before it, the first after `last` where there is one
abbrev pub after : Option Place → Place → Bool
after None p = true
after (Some q) p = before q p

abbrev pub rising_from : Option Place → List Place → Bool
rising_from last [] = true
rising_from last (p ∷ l) = after last p && rising_from (Some p) l

-- why the seed is refused, if it is
abbrev pub seed_fault : ℕ → ℕ → List Place → Option Refusal
seed_fault r n places = cond (size_outside r || (size_outside n || some_outside r n places)) (Some OutsideLimits) (cond (rising_from None places) None (Some NotRising))

-- whether row a and column b are listed
abbrev pub marked : ℕ → ℕ → List Place → Bool
marked a b [] = false
marked a b (p ∷ l) = (a == p.row && b == p.column) || marked a b l

-- the matrix of r rows and n columns with the entry f a b in row a and column b
abbrev pub matrix : ℕ → ℕ → (ℕ → ℕ → Bool) → List (List Bool)
matrix r n f = map (λ a. map (λ b. f a b) (range_with_len 0 n)) (range_with_len 0 r)

-- the seed with ones at the listed places
abbrev pub seed_of : ℕ → ℕ → List Place → List (List Bool)
seed_of r n places = matrix r n (λ a b. marked a b places)

-- why a seed as a call is given it is refused, if it is; and the matrix that it is
abbrev pub fault_of : Seed → Option Refusal
fault_of s = seed_fault s.rows s.columns s.ones.now

abbrev pub matrix_of : Seed → List (List Bool)
matrix_of s = seed_of s.rows s.columns s.ones.now
