use Rattle.std.proofs.Common.{◌≡◌, ℕ, suc, ◌+◌, ◌-◌, ◌*◌, take, drop, sym, ap, ◌∙◌, ap₂, add-one, arith}
use Rattle.elimination.proofs.Stack.{row_at}
use Rattle.elimination.proofs.echelon.Echelon.row.Goals as goal

pub returns-clause-cells : goal.returns-clause-cells
returns-clause-cells g c =
    let w : ℕ = c.args.self.now.width in
    let j : ℕ = c.args.j in
    let k : j * (w + 1) + (w + 1) - j * (w + 1) ≡ suc w = omega arith in
    ap₂ (λ n t. take n (drop (j * (w + 1)) t)) k c.deref.ensures.value ∙ ap (λ m. take (suc w) (drop (j * m) c.args.self.now.cells.items)) (add-one w) ∙ sym (row_at (suc w) w c.args.self.now.cells.items j c.requires)
