use Rattle.std.proofs.Common.{Bool, List, take}
use Rattle.table.specs.OfTable.{meaning_of}
use Rattle.upkeep.specs.Changed.{marked}
use Rattle.systems.specs.Stated.{Stated}
use Rattle.systems.proofs.System.add_all.Given as goal

abbrev pub invariant-loop-check : goal.invariant-loop-check
invariant-loop-check l = (k among : List Bool) → Stated l.fn.self (meaning_of l.table) k among l.odd → Stated l.self (meaning_of l.table) k (marked (take l.check-index l.checks) among) l.odd
