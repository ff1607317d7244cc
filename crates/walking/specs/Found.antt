-- What a walk finds.
use Rattle.std.specs.Prelude.{ℕ, zero, suc, Bool, List, [], ◌∷◌}
use Rattle.sets.specs.Sets.{size, lowest}
use Rattle.walking.specs.declared.found.Connecting.{Connecting}
use Rattle.walking.specs.declared.found.Connecting.TheVariants.{Absent, One, Several}

-- of how many checks there are, and which if it is one
abbrev pub by_number : ℕ → ℕ → Connecting
by_number zero c = Absent
by_number (suc zero) c = One c
by_number (suc (suc n)) c = Several

-- what is told of a set of connecting checks
abbrev pub told : List Bool → Connecting
told m = by_number (size m) (lowest m)

-- the same of a list of them
abbrev pub listed : List ℕ → Connecting
listed [] = Absent
listed (c ∷ []) = One c
listed (c ∷ d ∷ l) = Several
