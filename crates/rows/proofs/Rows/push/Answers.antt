use Rattle.std.proofs.Common.{arith}
use Rattle.rows.proofs.Cuts.{cuts_push, rising_push}
use Rattle.rows.proofs.Rows.push.Goals as goal

pub invariant_of-self-2 : goal.invariant_of-self-2
invariant_of-self-2 c =
    rw (c.push_reserved.ensures.items, c.in_ok-reserve.ensures.items) (
    rising_push c.self.inside.places.items c.args.row.now _ c.len.result c.in_ok-extend_from_slice.ensures.items (omega arith) 0 c.self.inside.ends.items c.self.invariant)

pub returns : goal.returns
returns c =
    rw (c.push_reserved.ensures.items, c.in_ok-reserve.ensures.items, ← c.self.view_is) (
    cuts_push c.self.inside.places.items c.args.row.now _ c.len.result c.in_ok-extend_from_slice.ensures.items (omega arith) 0 c.self.inside.ends.items c.self.invariant)
