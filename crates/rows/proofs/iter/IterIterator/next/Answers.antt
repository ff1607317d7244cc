use Rattle.std.proofs.Common.{length, subst}
use Rattle.rows.specs.Cut.{Rising}
use Rattle.rows.proofs.Cuts.{rising_le}
use Rattle.rows.proofs.iter.IterIterator.next.Goals as goal

pub part-row-requires : goal.part-row-requires
part-row-requires c =
    let r = c.self.inside in
    let rising = subst (λ l. Rising r.start l (length r.places.now)) c.in_ok-end.ensures.cases.0 c.self.invariant in
    (rising.0, rising_le _ _ _ rising.1)
