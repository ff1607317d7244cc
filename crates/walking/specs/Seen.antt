-- What a walk looks at.
use Rattle.std.specs.Prelude.{Bool, false, List, []}
use Rattle.rules.specs.States.{State}

-- a state of which only the erased qubits and the closed checks are told: no more of it decides what a cluster and its checks are
abbrev pub seen : List Bool → List Bool → State
seen erased closed =
    record {
      erased = erased;
      shelved = [];
      flipped = [];
      closed = closed;
      odds = [];
      shelf = [];
      void = false;
      number = 0;
      peeled = 0;
      pruned = 0;
      chosen = 0;
    }
