-- The questions to a code that a line asks by its word.
use Rattle.std.specs.Prelude.{ℕ, List, Some, None, Option, codes, if◌then◌else◌}
use Rattle.std.specs.Str.{bytes_eq}
use Rattle.terms.specs.declared.row.Row.TheVariants.{Check, Generator}
use Rattle.played.specs.declared.questions.Asked.{Asked}
use Rattle.played.specs.declared.questions.Asked.TheVariants.{Side, Size, Qubit}

-- what a word asks: of qubit n, or of row n and its place k
abbrev pub asked_by : List ℕ → ℕ → ℕ → Option Asked
asked_by word n k =
    if bytes_eq word (codes "side") then Some (Side n)
    else if bytes_eq word (codes "check_size") then Some (Size (Check n))
    else if bytes_eq word (codes "generator_size") then Some (Size (Generator n))
    else if bytes_eq word (codes "check_qubit") then Some (Qubit (Check n) k)
    else if bytes_eq word (codes "generator_qubit") then Some (Qubit (Generator n) k)
    else None
