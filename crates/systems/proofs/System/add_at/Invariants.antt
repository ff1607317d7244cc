use Rattle.std.proofs.Common.{◌≡◌, Bool, List, length, take}
use Rattle.table.specs.OfTable.{meaning_of}
use Rattle.systems.specs.Stated.{Stated, unknowns_of}
use Rattle.systems.specs.Told.{AllIn}
use Rattle.systems.proofs.Touched.{with_open}
use Rattle.systems.proofs.System.add_at.Given as goal

-- what has been added so far, all that is met among it
abbrev pub invariant-loop-check : goal.invariant-loop-check
invariant-loop-check l =
    record {
      unknowns : unknowns_of l.self ≡ unknowns_of l.fn.self;
      added :
          (k among : List Bool) → length l.closed ≡ length (meaning_of l.table).checks → AllIn l.fn.self.met.items among → Stated l.fn.self (meaning_of l.table) k among l.odd
          → Stated l.self (meaning_of l.table) k (with_open among l.closed (take l.check-index l.check-items)) l.odd × AllIn l.self.met.items (with_open among l.closed (take l.check-index l.check-items));
    }
