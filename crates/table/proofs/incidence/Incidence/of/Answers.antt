use Rattle.std.proofs.Common.{◌≡◌, ℕ, ◌<◌, List, [], cond, length, map, ap, ◌∙◌, arith, lt-ltb}
use Rattle.std.specs.List.{range_with_len}
use Rattle.terms.specs.declared.row.Row.TheVariants.{Check}
use Rattle.table.proofs.Held.{crossed}
use Rattle.table.proofs.Steps.{made_more}
use Rattle.table.proofs.incidence.Incidence.of.Goals as goal

pub loop-k-preserved : goal.loop-k-preserved
loop-k-preserved g c =
    let checks = (g.C.Code.meaning c.args.code.now).checks in
    let told : ℕ → List ℕ = λ k. g.C.Code.told c.args.code.now (Check k) in
    let k = c.loop-k.k in
    let low : k < length checks = omega (arith, c.checks-count.ensures) in
    made_more told _ _ k _ c.loop-k.invariant c.in_ok-push_row_of.ensures (ap (λ b. cond b (told k) []) (lt-ltb k (length checks) low))

pub returns : goal.returns
returns g c =
    let M = g.C.Code.meaning c.args.code.now in
    let told = g.C.Code.told c.args.code.now in
    let count : c.loop-k.k ≡ length M.checks = omega (arith, c.checks-count.ensures) in
    let rows = c.loop-k.invariant ∙ ap (λ n. map (λ k. told (Check k)) (range_with_len 0 n)) count in
    (rows, crossed M told (g.C.Code.sound c.args.code.now) (g.C.Code.tells c.args.code.now) _ _ _ _ rows c.checks-count.ensures c.qubits.ensures c.in_ok-at.ensures)
