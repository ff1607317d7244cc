use Rattle.std.proofs.Common.{◌≡◌, ℕ, ◌+◌, length, sym, ◌∙◌, subst}
use Rattle.elimination.specs.Table.{AddedFrom, row_of}
use Rattle.elimination.proofs.Held.{room_of}
use Rattle.elimination.proofs.Steps.{At, at_skip, at_add}
use Rattle.elimination.proofs.echelon.Echelon.reduce.Goals as goal
use Rattle.elimination.proofs.echelon.Echelon.reduce.Goals.{then-not-is_zero+else-is_free, else-not-is_zero}

pub loop-j-preserved : goal.loop-j-preserved
loop-j-preserved g c =
    let K = g.T.Value.field in
    let w : ℕ = c.args.self.now.width in
    let T = c.args.self.now.cells.items in
    let j : ℕ = c.loop-j.j in
    let n : length c.loop-j.row ≡ c.args.self.now.width + 1 = c.loop-j.auto.row ∙ c.requires in
    elim c.if-not-is_zero.branch [
      | then-not-is_zero+else-is_free v ↦
          at_add K w T j (room_of c.args.self.now) c.loop-j-test.true c.args.row.now c.loop-j.row n
          c.index-row-j.result v.negated.result c.if-not-is_zero.row c.index-row-j.is (sym v.is_free.ensures ∙ v.if-is_free.false)
          v.negated.ensures (subst (AddedFrom K j v.negated.result (row_of w T j) c.loop-j.row) (sym v.row-is) v.add_row.ensures) c.loop-j.invariant
      | else-not-is_zero v ↦
          subst (At K w T c.args.row.now (j + 1)) (sym v.row-is)
          (at_skip K w T j (room_of c.args.self.now) c.loop-j-test.true c.args.row.now c.loop-j.row n
          c.index-row-j.result c.index-row-j.is (sym c.is_zero.ensures ∙ v.if-not-is_zero.false) c.loop-j.invariant)
    ]
