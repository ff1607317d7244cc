-- What a system answers for a set of qubits.
use Rattle.std.specs.Prelude.{◌≡◌, ℕ, Bool, List, Option}
use Rattle.sets.specs.Sets.{elements}
use Rattle.systems.specs.declared.System.{System}
use Rattle.systems.specs.Stated.{unknowns_of, least_of}
use Rattle.systems.specs.Told.{Found, spread}

-- the unknowns are k; and there is none of these solutions, or the first one stands in the system and the slack is answered
abbrev pub SolvedOver : System → List Bool → List (List Bool) → Option ℕ → Type 0
SolvedOver e k found o = (elements k ≡ unknowns_of e) × Found found o (spread k (least_of e))
