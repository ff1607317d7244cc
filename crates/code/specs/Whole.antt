-- A row that is told at once.
use Rattle.std.specs.Prelude.{ℕ, cond, List, []}
use Rattle.terms.specs.declared.row.Row.{Row}
use Rattle.meaning.specs.Meaning.{Meaning}
use Rattle.meaning.specs.Telling.{is_row}

-- the qubits of the row r in the order told; none where the code has no such row
abbrev pub row_told : Meaning → (Row → List ℕ) → Row → List ℕ
row_told M told r = cond (is_row M r) (told r) []
