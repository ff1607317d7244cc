use Rattle.std.proofs.Common.{◌≡◌, ℕ, ◌+◌, ◌-◌, false, length, drop, ltb, sym, ap, ◌∙◌, arith, le-ltb}
use Rattle.elimination.proofs.Lists.{put_back}
use Rattle.elimination.proofs.Held.{begun}
use Rattle.elimination.proofs.Elimination.begin.Goals as goal

pub returns-clause-begun : goal.returns-clause-begun
returns-clause-begun g c =
    let e = c.args.self.now in
    let u : ℕ = c.from-n.result in
    let R = c.deref_mut.result.now in
    let q : ltb 256 c.args.unknowns ≡ false = le-ltb 256 c.args.unknowns (omega (arith, c.from-n.ensures)) in
    rw q (record {
      unknowns = c.begin.ensures.width ∙ c.from-n.ensures;
      stands =
          begun g.T.Value.field u c.args.unknowns c.begin.new.self.cells.items R c.clear.new.row (drop ((u + 1) - 0) R) _ c.from-n.ensures c.if-n-gt-MOST.false
          (ap length c.deref_mut.ensures.value ∙ sym e.row.ok.0 ∙ e.rowed) c.begin.ensures.empty c.clear.ensures
          (put_back e.row ((u + 1) - 0) R c.clear.new.row c.clear.auto.row c.deref_mut.ensures.len);
    })
