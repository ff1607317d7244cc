-- A state of which a part stands in lists.
use Rattle.std.specs.Prelude.{◌≡◌, Bool, List}
use Rattle.rules.specs.declared.answers.Status.{Status}
use Rattle.rules.specs.States.{State}
use Rattle.upkeep.specs.Statuses.{erased_of}

-- these are the statuses of the qubits, the closed checks and the void mark of the state s
pub record ShownBy (status : List Status) (shut : List Bool) (void : Bool) (s : State) : Type 0 where
  pub erased : s.erased ≡ erased_of status
  pub closed : s.closed ≡ shut
  pub marked : s.void ≡ void
