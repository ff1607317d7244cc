use Rattle.std.proofs.Common.{◌≤◌, ◌≡◌, ℕ, ◌+◌, ◌-◌, ◌*◌, ◌++◌, length, take, drop, replicate, ap, ◌∙◌, arith}
use Rattle.std.proofs.lemmas.List.{length-take-le}
use Rattle.elimination.proofs.Lists.{put_back}
use Rattle.elimination.proofs.Held.{square}
use Rattle.elimination.proofs.Begins.{clear_empty}
use Rattle.elimination.proofs.echelon.Echelon.begin.Goals as goal

pub returns-clause-empty : goal.returns-clause-empty
returns-clause-empty g c =
    let n : ℕ = c.args.width in
    let T = c.deref_mut.result.now in
    let k : c.args.width * (c.args.width + 1) - 0 ≡ c.args.width * (c.args.width + 1) = omega arith in
    let sq : n * (n + 1) ≤ length T = omega (arith, square n c.requires, c.args.self.now.room, c.deref_mut.ensures.len) in
    clear_empty g.T.Value.field n _ (drop (n * (n + 1) - 0) T)
    (put_back c.args.self.now.cells (n * (n + 1) - 0) T c.clear.new.row c.clear.auto.row c.deref_mut.ensures.len
    ∙ ap (λ t. t ++ drop (n * (n + 1) - 0) T) (c.clear.ensures ∙ ap (λ i. replicate i g.T.Value.field.zer) (ap (λ i. length (take i T)) k ∙ length-take-le (n * (n + 1)) T sq)))
