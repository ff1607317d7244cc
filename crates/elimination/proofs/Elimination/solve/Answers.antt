use Rattle.std.proofs.Common.{◌≡◌, ℕ, ◌-◌, ◌≤◌, length, take, drop, ◌∙◌, arith}
use Rattle.std.proofs.lemmas.List.{length-take-le}
use Rattle.elimination.proofs.Lists.{put_back}
use Rattle.elimination.proofs.Answers.{none_left}
use Rattle.elimination.proofs.Held.{solved}
use Rattle.elimination.proofs.Elimination.solve.Goals as goal

pub returns-then-self-clause-first : goal.returns-then-self-clause-first
returns-then-self-clause-first g c n rows written h = (record { unknowns = h.unknowns; stands = h.stands }, none_left g.T.Value.field n rows written _ _ _ c.if-self.true h.stands)

pub returns-clause-first : goal.returns-clause-first
returns-clause-first g c n rows written h =
    let e = c.args.self.now in
    let D = c.deref_mut.result.now in
    let u : ℕ = c.args.self.now.echelon.width in
    let k : length c.reverse.new.self ≡ length (take (c.args.self.now.echelon.width - 0) c.deref_mut.result.now) = c.reverse.auto.self ∙ c.least.auto.out in
    let room : c.args.self.now.echelon.width - 0 ≤ length c.deref_mut.result.now = omega (arith, c.args.self.now.echelon.few, c.args.self.now.roomy, c.deref_mut.ensures.len) in
    let size : length c.reverse.new.self ≡ c.args.self.now.echelon.width = omega (arith, k, length-take-le (c.args.self.now.echelon.width - 0) c.deref_mut.result.now room) in (
      record { unknowns = h.unknowns; stands = h.stands },
      solved g.T.Value.field u n rows written e.contradicts e.echelon.cells.items e.row.items h.unknowns h.stands
          c.least.new.out c.reverse.new.self (drop (u - 0) D) _ c.if-self.false c.least.ensures c.reverse.ensures.after size
          (put_back e.least (u - 0) D c.reverse.new.self k c.deref_mut.ensures.len),
    )
