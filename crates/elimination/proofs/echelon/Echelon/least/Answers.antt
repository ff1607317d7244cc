use Rattle.std.proofs.Common.{◌≡◌, ℕ, suc, ◌+◌, ◌-◌, length, take, drop, sym, refl, ◌∙◌, arith}
use Rattle.elimination.proofs.Held.{room_of}
use Rattle.elimination.proofs.Readings.{filled_none, filled_free, filled_lead}
use Rattle.elimination.proofs.echelon.Echelon.least.Goals as goal
use Rattle.elimination.proofs.echelon.Echelon.least.Goals.{then-is_free, else-is_free}

pub loop-j-init : goal.loop-j-init
loop-j-init g c = filled_none g.T.Value.field c.args.self.now.width c.args.self.now.cells.items c.args.out.now c.requires

pub loop-j-preserved : goal.loop-j-preserved
loop-j-preserved g c =
    let K = g.T.Value.field in
    let w : ℕ = c.args.self.now.width in
    let T = c.args.self.now.cells.items in
    let i : ℕ = c.loop-j.j in
    let j : ℕ = i - 1 in
    let out = c.loop-j.out in
    let q : c.loop-j.j ≡ suc (c.loop-j.j - 1) = omega arith in
    elim c.if-is_free.branch [
      | then-is_free v ↦
          filled_free K w T i j out (room_of c.args.self.now) q c.loop-j.invariant c.if-is_free.out (sym c.is_free.ensures ∙ v.if-is_free.true) (v.out-is ∙ v.zero.ensures)
      | else-is_free v ↦
          let L = v.row-pivot.result.now in
          let n : ℕ = length L - (j + 2) in
          let m : ℕ = length out - (j + 1) in
          let nq : length v.row-pivot.result.now - ((c.loop-j.j - 1) + 2) ≡ c.args.self.now.width - suc (c.loop-j.j - 1) = omega (arith, v.row-pivot.ensures.long) in
          let mq : length c.loop-j.out - ((c.loop-j.j - 1) + 1) ≡ c.args.self.now.width - suc (c.loop-j.j - 1) = omega (arith, c.loop-j.invariant.long) in
          filled_lead K w T i j out (room_of c.args.self.now) q c.loop-j.invariant
          L (take n (drop (j + 2) L)) (take m (drop (j + 1) out)) v.index-pivot-0.result v.dot-sum.result v.negated.result c.if-is_free.out n m
          v.row-pivot.ensures.cells (sym c.is_free.ensures ∙ v.if-is_free.false) v.index-pivot-0.is nq mq refl refl v.dot-sum.ensures.sum v.negated.ensures (v.out-is ∙ v.plus.ensures)
    ]
