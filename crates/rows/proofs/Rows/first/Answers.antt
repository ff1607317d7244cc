use Rattle.std.proofs.Common.{◌≤◌, length, sym, arith}
use Rattle.rows.proofs.Cuts.{rising_within, cuts_joined}
use Rattle.rows.proofs.Rows.first.Goals as goal

pub part-requires : goal.part-requires
part-requires c =
    let r = c.self.inside in
    let first : c.min-rows.result ≤ length r.ends.items = omega arith in
    rw (c.start.ensures, c.deref-2.ensures.value, c.deref.ensures.value) (rising_within 0 (length r.places.items) r.ends.items c.self.invariant c.min-rows.result first)

pub returns : goal.returns
returns c =
    let r = c.self.inside in
    rw (c.part.ensures, c.start.ensures, c.deref-2.ensures.value, c.deref.ensures.value, ← c.self.view_is)
    (sym (cuts_joined r.places.items 0 (length r.places.items) r.ends.items c.self.invariant c.args.count c.min-rows.result (omega arith)))
