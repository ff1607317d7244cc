use Rattle.std.proofs.Common.{◌≡◌, ◌++◌, map, take, drop}
use Rattle.rules.specs.Tallies.{byte}
use Rattle.marking.proofs.changing.write_marks.Given as goal

abbrev pub invariant-loop-k : goal.invariant-loop-k
invariant-loop-k l = l.bytes ≡ map byte (take l.k l.marks) ++ drop l.k l.initial.bytes
