use Rattle.std.proofs.Common.{arith}
use Rattle.rows.proofs.Counting.{counted_none, counted_more, counted_past, counted_all, count_low}
use Rattle.rows.proofs.crossing.counted.Goals as goal
use Rattle.rows.proofs.crossing.counted.Goals.{in-Some, in_default}

pub loop-q-init : goal.loop-q-init
loop-q-init c = rw (c.in_ok-counts.ensures.items_if_clones_equal (λ y e. e)) (counted_none c.args.row.now c.args.columns)

pub overflow_add-count : goal.overflow_add-count
overflow_add-count c = omega (arith, count_low c.loop-q.invariant (omega arith) c.in-Some.count.now c.in-Some.ensures.item.3)

pub loop-q-preserved : goal.loop-q-preserved
loop-q-preserved c =
    elim c.match-get_mut.branch [
      | in-Some w ↦ rw w.counts-is (counted_more c.loop-q.invariant (omega arith) w.in-Some.count.now w.in-Some.ensures.item.3)
      | in_default w ↦ rw w.counts-is (counted_past c.loop-q.invariant (omega arith) w.in_default.ensures.item.3)
    ]

pub returns : goal.returns
returns c = counted_all (omega arith) c.loop-q.invariant
