use Rattle.std.proofs.Common.{◌≡◌, length, replicate}
use Rattle.values.proofs.Sums.{written}
use Rattle.values.proofs.clear.Given as goal

abbrev pub invariant-loop-x : goal.invariant-loop-x
invariant-loop-x g l = l.row ≡ written (replicate (length l.initial.row) g.T.Value.field.zer) l.initial.row l.x-index
