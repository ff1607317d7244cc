use Rattle.std.proofs.Common.{◌≡◌, length, sym, ◌∙◌, ap₂, arith}
use Rattle.linear.specs.Basis.{mix}
use Rattle.values.proofs.Sums.{write_more, write_all, unwritten, length_mix, mix_at}
use Rattle.values.proofs.add_times.Goals as goal

pub loop-i-preserved : goal.loop-i-preserved
loop-i-preserved g c =
    let K = g.T.Value.field in
    let row = c.args.row.now in
    let other = c.args.other.now in
    let sum = mix K c.args.k other row in
    let e : length c.args.row.now ≡ length c.args.other.now = omega arith in
    let l = length_mix K c.args.k other row e in
    let x = unwritten sum row c.loop-i.row c.loop-i.i c.index-row-i.result l c.loop-i-test.true c.loop-i.invariant c.index-row-i.is in
    write_more sum row c.loop-i.row c.loop-i.i c.plus.result l c.loop-i-test.true c.loop-i.invariant
    (c.plus.ensures ∙ ap₂ K.add (sym c.index-row-i.is) c.times.ensures ∙ mix_at K c.args.k other row c.loop-i.i c.index-row-i.result c.index-other-i.result c.plus.result e c.loop-i-test.true x c.index-other-i.is)

pub returns-clause-sum : goal.returns-clause-sum
returns-clause-sum g c e =
    let K = g.T.Value.field in
    write_all (mix K c.args.k c.args.other.now c.args.row.now) c.args.row.now c.loop-i.row c.loop-i.i (length_mix K c.args.k c.args.other.now c.args.row.now e) c.loop-i-test.false c.loop-i.invariant
