use Rattle.rows.proofs.Laying.{Laying}
use Rattle.rows.proofs.crossing.lay.Given as goal

abbrev pub invariant-loop-count : goal.invariant-loop-count
invariant-loop-count l = Laying l.initial.counts l.counts l.count-index l.start
