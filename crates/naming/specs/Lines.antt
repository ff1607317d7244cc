-- The lines of the list of names: the grid name on the left, the stored number on the right.
use Rattle.std.specs.Prelude.{ℕ, ◌+◌, ◌*◌, ◌/◌, ◌%◌, List, ◌++◌, codes, decimal}
use Rattle.std.specs.List.{range_with_len, flat_map}
use Rattle.terms.specs.declared.row.Row.{Row}
use Rattle.terms.specs.declared.row.Row.TheVariants.{Check, Generator}
use Rattle.naming.specs.declared.kind.Kind.{Kind}
use Rattle.naming.specs.declared.kind.Kind.TheVariants.{Checks, Generators}

-- the word, the two places in the grid, a bar, the stored number, and how the line goes on
abbrev pub name : List ℕ → ℕ → ℕ → ℕ → List ℕ → List ℕ
name word x y number rest = word ++ (codes " " ++ (decimal x ++ (codes " " ++ (decimal y ++ (codes " | " ++ (decimal number ++ rest))))))

-- the qubits of one side, whose places come in a square of the given width, numbered on from `first`
abbrev pub qubit_line : List ℕ → ℕ → ℕ → ℕ → List ℕ
qubit_line letter first width k = name letter (k / width) (k % width) (first + k) (codes "\n")

abbrev pub qubit_lines : List ℕ → ℕ → ℕ → List ℕ
qubit_lines letter first width = flat_map (qubit_line letter first width) (range_with_len 0 (width * width))

-- the word for a kind of row, and the k-th row of that kind
abbrev pub word : Kind → List ℕ
word Checks = codes "check"
word Generators = codes "generator"

abbrev pub row_of : Kind → ℕ → Row
row_of Checks k = Check k
row_of Generators k = Generator k

-- a row, followed by its qubits in the order in which they are told, each after a space
abbrev pub told_qubit : ℕ → List ℕ
told_qubit q = codes " " ++ decimal q

abbrev pub row_line : (Row → List ℕ) → Kind → ℕ → ℕ → List ℕ
row_line told kind width k = name (word kind) (k / width) (k % width) k (codes " :") ++ (flat_map told_qubit (told (row_of kind k)) ++ codes "\n")

-- the rows of one kind, whose places come in lines of the given width
abbrev pub row_lines : (Row → List ℕ) → Kind → ℕ → ℕ → List ℕ
row_lines told kind width count = flat_map (row_line told kind width) (range_with_len 0 count)
