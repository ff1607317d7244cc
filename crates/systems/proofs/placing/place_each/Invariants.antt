use Rattle.std.proofs.Common.{take}
use Rattle.systems.specs.Places.{Placed}
use Rattle.systems.proofs.placing.place_each.Given as goal

abbrev pub invariant-loop-place : goal.invariant-loop-place
invariant-loop-place l = Placed l.places (take l.place l.qubits)
