use Rattle.std.proofs.Common.{length}
use Rattle.listed.proofs.faults.+repeats.Given as goal

abbrev pub decreases-repeats : goal.decreases-repeats
decreases-repeats l = length l.row.now
