-- Reports, the errors that fit them, and products of generators. A set of qubits or of checks is a mask.
use Rattle.std.specs.Prelude.{◌≡◌, ℕ, ◌<◌, Bool, true, false, not, ◌&&◌, ◌||◌, List, [], ◌∷◌, map, length, nat_lt}
use Rattle.sets.specs.Sets.{row, plus, empty, marks, within, odd}
use Rattle.meaning.specs.Meaning.{Meaning, qubits}

-- the lost qubits and the odd checks
pub record Report : Type 0 where
  pub lost : List Bool
  pub odds : List Bool

-- the report speaks of the code's qubits and checks
pub record For (M : Meaning) (R : Report) : Type 0 where
  pub lost_range : length R.lost ≡ qubits M
  pub odds_range : length R.odds ≡ length M.checks

-- the report that lists of lost qubits and odd checks make
abbrev pub report : Meaning → List ℕ → List ℕ → Report
report M lost odds = record { lost = marks (qubits M) lost; odds = marks (length M.checks) odds }

-- whether each number is above the one before it
abbrev pub rises_from : ℕ → List ℕ → Bool
rises_from a [] = true
rises_from a (b ∷ l) = nat_lt a b && rises_from b l

abbrev pub rises : List ℕ → Bool
rises [] = true
rises (a ∷ l) = rises_from a l

-- whether some number is not below n
abbrev pub some_past : ℕ → List ℕ → Bool
some_past n [] = false
some_past n (k ∷ l) = not (nat_lt k n) || some_past n l

-- An error is a set of qubits. Its syndrome: the checks that hold an odd number of them
abbrev pub syndrome : Meaning → List Bool → List Bool
syndrome M e = map (λ c. odd c e) M.checks

-- an error fits if all its qubits are lost and its syndrome is the set of odd checks
pub record Fits (M : Meaning) (R : Report) (e : List Bool) : Type 0 where
  pub lost : within e R.lost ≡ true
  pub explains : syndrome M e ≡ R.odds

-- the product of a list of generators: the qubits in an odd number of its entries
abbrev pub product : Meaning → List ℕ → List Bool
product M [] = empty (qubits M)
product M (g ∷ l) = plus (row M.generators g) (product M l)

-- each entry is a generator of the code
abbrev pub Named : Meaning → List ℕ → Type 0
Named M [] = Unit {0}
Named M (g ∷ l) = (g < length M.generators) × Named M l
