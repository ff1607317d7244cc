-- The code that listed tables hold.
use Rattle.std.specs.Prelude.{ℕ, Bool, List, map, vec_items, nat_eq}
use Rattle.terms.specs.declared.row.Row.{Row}
use Rattle.meaning.specs.Meaning.{Meaning}
use Rattle.meaning.specs.Listed.{listed_code, listed_told}
use Rattle.listed.specs.declared.Listed.{Listed}

-- sides as truth values: true for side 1
abbrev pub sides_of : List ℕ → List Bool
sides_of sides = map (λ b. nat_eq b 1) sides

unfoldable pub meaning_of : Listed → Meaning
meaning_of c = listed_code c.checks c.generators (sides_of (vec_items c.sides))

unfoldable pub told_of : Listed → Row → List ℕ
told_of c = listed_told c.checks c.generators
