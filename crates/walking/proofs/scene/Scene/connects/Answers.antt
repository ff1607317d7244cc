use Rattle.std.proofs.Common.{sym, ◌∙◌, arith, below_more}
use Rattle.walking.specs.Scenes.{across}
use Rattle.walking.proofs.Told.{met_at, met_nowhere}
use Rattle.walking.proofs.scene.Scene.connects.Goals as goal

pub loop-q-preserved : goal.loop-q-preserved
loop-q-preserved c = below_more _ _ c.loop-q.invariant (sym c.is_across.ensures ∙ c.if-is_across.false)

pub returns-then-is_across : goal.returns-then-is_across
returns-then-is_across c =
    let v = c.args.self.now in
    sym (met_at v.table.now c.args.check (across v) c.row-q-items.result.now c.row-q-items.ensures c.loop-q.q-index (omega arith) (sym c.is_across.ensures ∙ c.if-is_across.true))

pub returns : goal.returns
returns c =
    let v = c.args.self.now in
    sym (met_nowhere v.table.now c.args.check (across v) c.row-q-items.result.now c.row-q-items.ensures (λ i h. c.loop-q.invariant i (omega arith)))
