use Rattle.std.proofs.Common.{◌≡◌, Bool, List, length, take}
use Rattle.table.specs.OfTable.{meaning_of}
use Rattle.systems.specs.Stated.{Stated, unknowns_of}
use Rattle.systems.specs.Told.{AllIn}
use Rattle.systems.proofs.Touched.{with_held}
use Rattle.systems.proofs.System.add_touched.Given as goal

-- what has been added so far, all that is met among it
abbrev pub invariant-loop-place : goal.invariant-loop-place
invariant-loop-place l =
    record {
      unknowns : unknowns_of l.self ≡ unknowns_of l.fn.self;
      added :
          (k among : List Bool) → length l.closed ≡ length (meaning_of l.table).checks → Stated l.fn.self (meaning_of l.table) k among l.odd
          → Stated l.self (meaning_of l.table) k (with_held (meaning_of l.table).checks among l.closed (length k) (take l.place (unknowns_of l.fn.self))) l.odd
          × AllIn l.self.met.items (with_held (meaning_of l.table).checks among l.closed (length k) (take l.place (unknowns_of l.fn.self)));
    }
