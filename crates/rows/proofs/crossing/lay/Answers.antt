use Rattle.std.proofs.Common.{◌≡◌, ◌+◌, get_or, arith, rules}
use Rattle.rows.proofs.Laying.{laying_more, laying_all}
use Rattle.rows.proofs.crossing.lay.Goals as goal

pub loop-count-preserved : goal.loop-count-preserved
loop-count-preserved c =
    let next : c.in_ok-start.start ≡ c.loop-count.start + get_or c.loop-count.counts c.loop-count.count-index 0 = search rules in
    rw c.replace.ensures.after (laying_more c.args.counts.now c.loop-count.counts c.loop-count.count-index c.loop-count.start _ (omega arith) (omega arith) next c.loop-count.invariant)

pub returns : goal.returns
returns c = laying_all c.args.counts.now c.loop-count.counts c.loop-count.count-index c.loop-count.start (omega arith) c.loop-count.invariant
