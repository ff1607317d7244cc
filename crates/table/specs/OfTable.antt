-- The code that a table holds.
use Rattle.std.specs.Prelude.{ℕ, List, vec_items}
use Rattle.terms.specs.declared.row.Row.{Row}
use Rattle.meaning.specs.Meaning.{Meaning}
use Rattle.meaning.specs.Listed.{listed_told}
use Rattle.table.specs.declared.Table.{Table}
use Rattle.table.specs.Held.{held_code}

unfoldable pub meaning_of : Table → Meaning
meaning_of t = held_code t.checks.rows t.generators.rows (vec_items t.sides)

-- the order in which the code told its rows
unfoldable pub told_of : Table → Row → List ℕ
told_of t = listed_told t.checks.rows t.generators.rows
