use Rattle.std.proofs.Common.{ℕ, ◌+◌, ◌-◌, drop, sym, ◌∙◌, subst}
use Rattle.elimination.specs.Calls.{Independent}
use Rattle.elimination.proofs.Lists.{put_back}
use Rattle.elimination.proofs.Held.{room_of, tried}
use Rattle.elimination.proofs.Elimination.is_independent.Goals as goal

pub returns : goal.returns
returns g c n rows written h =
    let e = c.args.self.now in
    let D = c.deref_mut.result.now in
    let u : ℕ = c.args.self.now.echelon.width in
    let both =
    tried g.T.Value.field u n rows written e.contradicts e.echelon.cells.items e.row.items h.unknowns h.stands
    c.reduce-column.result D _ c.reduce-column.new.row c.clear.new.row (drop ((u + 1) - 0) D) (room_of e.echelon) c.deref_mut.ensures.value
    c.reduce-column.ensures.below c.reduce-column.ensures.reduced c.reduce-column.auto.row c.clear.ensures (put_back e.row ((u + 1) - 0) D c.clear.new.row (c.clear.auto.row ∙ c.reduce-column.auto.row) c.deref_mut.ensures.len) in
    (record { unknowns = h.unknowns; stands = both.0 }, subst (Independent g.T.Value.field n rows written) (sym c.is_some.ensures) both.1)
