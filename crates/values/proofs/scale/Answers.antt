use Rattle.std.proofs.Common.{map, ap, sym, ◌∙◌}
use Rattle.std.proofs.lemmas.List.{length-map, get_or-map}
use Rattle.values.proofs.Sums.{write_more, unwritten}
use Rattle.values.proofs.scale.Goals as goal

pub loop-x-preserved : goal.loop-x-preserved
loop-x-preserved g c =
    let f = g.T.Value.field.mul c.args.k in
    let row = c.args.row.now in
    let l = length-map row f in
    let x = unwritten (map f row) row c.loop-x.row c.loop-x.x-index c.x-item.result l c.loop-x-test.true c.loop-x.invariant c.x-item.is in
    write_more (map f row) row c.loop-x.row c.loop-x.x-index c.times.result l c.loop-x-test.true c.loop-x.invariant
    (c.times.ensures ∙ ap f (sym c.x-item.is ∙ x) ∙ sym (get_or-map f row c.loop-x.x-index c.x-item.result c.times.result c.loop-x-test.true))
