-- A part of a row: the qubits of one side, which follow the ones of a word.
use Rattle.std.specs.Prelude.{◌≡◌, ℕ, ◌+◌, ◌*◌, true, false, List, ◌++◌, map, Some, None, Option}
use Rattle.terms.specs.declared.row.Row.{Row}
use Rattle.sets.specs.Sets.{elements}
use Rattle.meaning.specs.Meaning.{Meaning}
use Rattle.meaning.specs.Telling.{is_row}
use Rattle.product.specs.declared.part.Part.{Part}
use Rattle.product.specs.declared.part.Parts.{Parts}
use Rattle.product.specs.Words.{ones}

-- for each one of the word, at its place x, the qubit first + x * step
abbrev pub part_told : Part → List ℕ
part_told p = map (λ x. p.first + x * p.step) (elements (ones p.word))

-- the two parts are told one after the other
abbrev pub parts_told : Parts → List ℕ
parts_told p = part_told p.front ++ part_told p.back

-- a row of the code has the parts that it is told by; what is no row has none
abbrev pub Splits : Meaning → (Row → List ℕ) → Row → Option Parts → Type 0
Splits M told row (Some parts) = (is_row M row ≡ true) × (told row ≡ parts_told parts)
Splits M told row None = is_row M row ≡ false
