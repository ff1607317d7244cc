-- Which system of a code has been stated.
use Rattle.std.specs.Prelude.{◌≡◌, ℕ, ◌<◌, Bool, false, List, map, length, take, replicate, vec_items}
use Rattle.sets.specs.Sets.{has, row, size, elements, among as listed}
use Rattle.meaning.specs.Meaning.{Meaning}
use Rattle.linear.specs.Field.{bits}
use Rattle.linear.specs.System.{Row}
use Rattle.linear.specs.Compress.{compress}
use Rattle.elimination.specs.Holds.{Holds, solution}
use Rattle.elimination.specs.Calls.{check}
use Rattle.systems.specs.declared.System.{System}

-- the unknowns, rising; and the solution that was found last, over them
abbrev pub unknowns_of : System → List ℕ
unknowns_of e = take e.count (vec_items e.unknowns)

abbrev pub least_of : System → List Bool
least_of e = solution e.elimination

-- what the check c says of the unknowns k: its coefficients there, and whether it is odd
abbrev pub equation : Meaning → List Bool → List Bool → ℕ → Row Bool
equation M k odds c = check (compress bits k (row M.checks c)) (has odds c)

-- The system of the checks `among` of the code M, of which those of `odds` are odd, over the unknowns k is what has been stated to e:
-- what these checks say of the unknowns, in some order
pub record Stated (e : System) (M : Meaning) (k among odds : List Bool) : Type 0 where
  pub among_range : length among ≡ length M.checks
  pub odds_range : length odds ≡ length M.checks
  pub unknowns : elements k ≡ unknowns_of e
  pub order : List ℕ
  pub held : Holds bits e.elimination (size k) (map (equation M k odds) order) (replicate (size k) false)
  pub named : (d : ℕ) → d < length M.checks → listed d order ≡ has among d

-- of every system that has been stated to e, of whichever code
abbrev pub WhereStated : System → (Meaning → List Bool → List Bool → List Bool → Type 0) → Type 0
WhereStated e P = (M : Meaning) (k among odds : List Bool) → Stated e M k among odds → P M k among odds
