use Rattle.elimination.proofs.Readings.{Filled}
use Rattle.elimination.proofs.echelon.Echelon.least.Given as goal

abbrev pub invariant-loop-j : goal.invariant-loop-j
invariant-loop-j g l = Filled g.T.Value.field l.self.width l.self.cells.items l.j l.out
