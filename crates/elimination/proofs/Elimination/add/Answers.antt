use Rattle.std.proofs.Common.{◌≡◌, ℕ, ◌+◌, ◌-◌, ◌||◌, length, take, drop, sym, ap, ◌∙◌, length-set}
use Rattle.elimination.proofs.Lists.{put_back}
use Rattle.elimination.proofs.Adds.{flagged_or}
use Rattle.elimination.proofs.Held.{added}
use Rattle.elimination.proofs.Elimination.add.Goals as goal

pub returns : goal.returns
returns g c n rows written h =
    let e = c.args.self.now in
    let D = c.deref_mut.result.now in
    let u : ℕ = c.args.self.now.echelon.width in
    let k : length c.clear.new.row ≡ length (take ((c.args.self.now.echelon.width + 1) - 0) c.deref_mut.result.now) =
    c.clear.auto.row ∙ c.insert.auto.row ∙ length-set (take ((c.args.self.now.echelon.width + 1) - 0) c.deref_mut.result.now) 0 c.args.right in
    record {
      unknowns = c.insert.ensures.width ∙ h.unknowns;
      stands =
          added g.T.Value.field u n rows written e.contradicts e.echelon.cells.items e.row.items h.unknowns h.stands
          c.args.right c.insert.result (e.contradicts || c.eq.result) D c.insert.new.self.cells.items _ c.insert.new.row c.clear.new.row (drop ((u + 1) - 0) D)
          (flagged_or c.insert.result e.contradicts ∙ ap (λ b. e.contradicts || b) (sym c.eq.ensures))
          c.deref_mut.ensures.value c.insert.ensures.inserted c.insert.auto.row c.clear.ensures
          (put_back e.row ((u + 1) - 0) D c.clear.new.row k c.deref_mut.ensures.len);
    }
