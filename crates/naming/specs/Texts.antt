-- The whole list of names, and the line for a refusal.
use Rattle.std.specs.Prelude.{ℕ, ◌+◌, ◌-◌, ◌*◌, ◌/◌, ◌%◌, cond, List, ◌++◌, map, length, Some, None, codes, decimal, Option, ◌==◌, nat_lt, slice_index}
use Rattle.std.specs.List.{range_with_len}
use Rattle.terms.specs.declared.row.Row.{Row}
use Rattle.terms.specs.declared.refusal.Refusal.{Refusal}
use Rattle.terms.specs.declared.refusal.Refusal.TheVariants.{WrongEnd, OutsideLimits}
use Rattle.terms.specs.Refusals.{refusal_words}
use Rattle.product.specs.declared.place.Place.{Place}
use Rattle.naming.specs.declared.kind.Kind.TheVariants.{Checks, Generators}
use Rattle.naming.specs.Lines.{qubit_lines, row_lines}

-- how many names were printed
abbrev pub count_line : ℕ → ℕ → List ℕ
count_line r n = codes "printed " ++ (decimal (n * n + r * r) ++ (codes " qubits, " ++ (decimal (n * r) ++ (codes " checks, " ++ (decimal (r * n) ++ codes " generators\n")))))

-- the names of a product code of a seed with r rows and n columns that tells its rows as `told`
abbrev pub names_text : ℕ → ℕ → (Row → List ℕ) → List ℕ
names_text r n told = qubit_lines (codes "b") 0 n ++ (qubit_lines (codes "a") (n * n) r ++ (row_lines told Checks r (n * r) ++ (row_lines told Generators n (r * n) ++ count_line r n)))

-- a refusal on a line of its own: its number, where it has one, and its meaning
abbrev pub refusal_text : Refusal → List ℕ
refusal_text f = refusal_words f ++ codes "\n"

-- Arguments of the program: the numbers of rows and columns, and then row and column of each one.
-- Too few of them are an early end, and a row without its column is a count outside its limits.
abbrev pub place_at : List ℕ → ℕ → Place
place_at numbers k = record { row = slice_index numbers (2 * k + 2); column = slice_index numbers (2 * k + 3) }

-- two numbers as a place
abbrev pub place_of : List ℕ → Place
place_of c = record { row = slice_index c 0; column = slice_index c 1 }

abbrev pub places_of : List ℕ → List Place
places_of numbers = map (place_at numbers) (range_with_len 0 ((length numbers - 2) / 2))

abbrev pub count_fault : List ℕ → Option Refusal
count_fault numbers = cond (nat_lt (length numbers) 2) (Some WrongEnd) (cond (length numbers % 2 == 1) (Some OutsideLimits) None)
