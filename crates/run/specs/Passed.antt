-- How far a run has looked.
use Rattle.meaning.specs.Meaning.{Meaning}
use Rattle.rules.specs.States.{State}
use Rattle.rules.specs.Calls.{dangling}
use Rattle.rules.specs.Run.{all_erased}
use Rattle.running.specs.Finding.{NoneBelow}
use Rattle.run.specs.declared.places.Places.{Places}

-- no check below the one place is dangling, and none of the generators below the other has qubits and all of them erased
pub record Passed (M : Meaning) (s : State) (p : Places) : Type 0 where
  pub checks : NoneBelow (dangling M s) p.check
  pub generators : NoneBelow (all_erased M s) p.generator
