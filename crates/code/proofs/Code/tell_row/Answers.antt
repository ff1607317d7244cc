use Rattle.std.proofs.Common.{◌&&◌, ltb, length, get_or, vec_items, arith, ltb-true}
use Rattle.std.proofs.lemmas.Bool.{and_parts}
use Rattle.meaning.specs.Telling.{is_row}
use Rattle.meaning.proofs.Answered.{answered}
use Rattle.code.proofs.Appended.{appended_more, appended_all}
use Rattle.code.proofs.Code.tell_row.Goals as goal

pub loop-k-preserved : goal.loop-k-preserved
loop-k-preserved g c =
    let M = g.Self.Code.meaning c.args.self.now in
    let ns = g.Self.Code.told c.args.self.now c.args.row in
    let k = c.loop-k.k in
    let q = c.in-Some-row_qubit.qubit in
    let a = answered (is_row M c.args.row && ltb k (length ns)) (get_or ns k 0) q c.in-Some-row_qubit.ensures in
    let low = ltb-true k (length ns) (and_parts (is_row M c.args.row) (ltb k (length ns)) a.0).1 in (
      appended_more ns (vec_items c.reserve.new.self) (vec_items c.loop-k.list) (vec_items c.push_reserved.new.self) k q low c.loop-k.invariant.0 c.push_reserved.ensures.items a.1,
      omega (arith, c.loop-k.invariant.1, c.push_reserved.ensures.len, c.push_reserved.ensures.capacity),
    )

pub returns : goal.returns
returns g c =
    let M = g.Self.Code.meaning c.args.self.now in
    let ns = g.Self.Code.told c.args.self.now c.args.row in
    let a = answered (is_row M c.args.row) (length ns) c.in-Some.len c.in-Some.ensures in
    appended_all ns (vec_items c.args.list.now) (vec_items c.reserve.new.self) (vec_items c.loop-k.list) c.loop-k.k (is_row M c.args.row)
    (omega (arith, a.1, c.loop-k-test.false)) a.0 c.reserve.ensures.items c.loop-k.invariant.0
