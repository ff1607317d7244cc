use Rattle.elimination.proofs.Steps.{At}
use Rattle.elimination.proofs.echelon.Echelon.reduce.Given as goal

abbrev pub invariant-loop-j : goal.invariant-loop-j
invariant-loop-j g l = At g.T.Value.field l.self.width l.self.cells.items l.initial.row l.j l.row
