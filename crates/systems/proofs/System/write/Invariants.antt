use Rattle.std.proofs.Common.{◌≡◌, Bool, false, List, take, replicate}
use Rattle.sets.specs.Sets.{size, elements}
use Rattle.linear.specs.Field.{bits}
use Rattle.linear.specs.System.{Row}
use Rattle.elimination.specs.Holds.{Holds}
use Rattle.systems.specs.Stated.{unknowns_of}
use Rattle.systems.proofs.Places.{written_of}
use Rattle.systems.proofs.System.write.Given as goal

abbrev pub invariant-loop-qubit : goal.invariant-loop-qubit
invariant-loop-qubit l =
    record {
      same : unknowns_of l.self ≡ unknowns_of l.fn.self;
      met : l.self.met.items ≡ l.fn.self.met.items;
      written :
          (k : List Bool) (rows : List (Row Bool)) → elements k ≡ unknowns_of l.fn.self → Holds bits l.fn.self.elimination (size k) rows (replicate (size k) false)
          → Holds bits l.self.elimination (size k) rows (written_of k (take l.qubit-index l.qubit-items));
    }
