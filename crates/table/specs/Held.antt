-- The code that rows and sides make up.
use Rattle.std.specs.Prelude.{ℕ, Bool, true, false, List, map}
use Rattle.terms.specs.declared.row.Side.{Side}
use Rattle.terms.specs.declared.row.Side.TheVariants.{Zero, One}
use Rattle.meaning.specs.Meaning.{Meaning}
use Rattle.meaning.specs.Listed.{listed_code}

-- a side as a truth value: true for side 1
abbrev pub on_side_one : Side → Bool
on_side_one Zero = false
on_side_one One = true

abbrev pub held_code : List (List ℕ) → List (List ℕ) → List Side → Meaning
held_code checks generators sides = listed_code checks generators (map on_side_one sides)
