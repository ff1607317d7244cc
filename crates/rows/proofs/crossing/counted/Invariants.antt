use Rattle.rows.proofs.Counting.{Counted}
use Rattle.rows.proofs.crossing.counted.Given as goal

abbrev pub invariant-loop-q : goal.invariant-loop-q
invariant-loop-q l = Counted l.row l.q-index l.columns l.counts.items
