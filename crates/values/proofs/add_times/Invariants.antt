use Rattle.std.proofs.Common.{◌≡◌}
use Rattle.linear.specs.Basis.{mix}
use Rattle.values.proofs.Sums.{written}
use Rattle.values.proofs.add_times.Given as goal

abbrev pub invariant-loop-i : goal.invariant-loop-i
invariant-loop-i g l = l.row ≡ written (mix g.T.Value.field l.k l.other l.initial.row) l.initial.row l.i
