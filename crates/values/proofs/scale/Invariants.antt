use Rattle.std.proofs.Common.{◌≡◌, map}
use Rattle.values.proofs.Sums.{written}
use Rattle.values.proofs.scale.Given as goal

abbrev pub invariant-loop-x : goal.invariant-loop-x
invariant-loop-x g l = l.row ≡ written (map (g.T.Value.field.mul l.k) l.initial.row) l.initial.row l.x-index
