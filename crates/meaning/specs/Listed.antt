-- The code whose rows are listed, each as the numbers of its qubits.
use Rattle.std.specs.Prelude.{ℕ, Bool, List, [], map, length, slice_index_or}
use Rattle.terms.specs.declared.row.Row.{Row}
use Rattle.terms.specs.declared.row.Row.TheVariants.{Check, Generator}
use Rattle.sets.specs.Sets.{marks}
use Rattle.meaning.specs.Meaning.{Meaning}

abbrev pub listed_code : List (List ℕ) → List (List ℕ) → List Bool → Meaning
listed_code checks generators sides =
    record {
      checks = map (marks (length sides)) checks;
      generators = map (marks (length sides)) generators;
      sides = sides;
    }

-- each row is told as it is listed
abbrev pub listed_told : List (List ℕ) → List (List ℕ) → Row → List ℕ
listed_told checks generators (Check k) = slice_index_or checks k []
listed_told checks generators (Generator k) = slice_index_or generators k []
