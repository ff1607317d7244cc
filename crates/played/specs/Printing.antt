-- What the programs print of refusals and codes.
use Rattle.std.specs.Prelude.{ℕ, List, ◌++◌, Some, None, codes, decimal, Option}

abbrev pub refused_text : Option ℕ → List ℕ
refused_text (Some n) = codes "refused " ++ decimal n
refused_text None = codes "no memory"

-- the sizes of a code: its qubits, checks and generators
abbrev pub sizes_text : ℕ → ℕ → ℕ → List ℕ
sizes_text q c g = codes "ok " ++ (decimal q ++ (codes " " ++ (decimal c ++ (codes " " ++ decimal g))))

-- a number, or that there is none
abbrev pub found_text : Option ℕ → List ℕ
found_text (Some n) = decimal n
found_text None = codes "none"
