use Rattle.std.proofs.Common.{length, replicate, sym, ◌∙◌}
use lib.ListN.{length-replicate}
use Rattle.std.proofs.lemmas.List.{get_or-replicate}
use Rattle.values.proofs.Sums.{write_more}
use Rattle.values.proofs.clear.Goals as goal

pub loop-x-preserved : goal.loop-x-preserved
loop-x-preserved g c =
    let z = g.T.Value.field.zer in
    let row = c.args.row.now in
    write_more (replicate (length row) z) row c.loop-x.row c.loop-x.x-index c.zero-zero.result (length-replicate (length row) z) c.loop-x-test.true c.loop-x.invariant
    (c.zero-zero.ensures ∙ sym (get_or-replicate (length row) c.loop-x.x-index z c.zero-zero.result c.loop-x-test.true))
