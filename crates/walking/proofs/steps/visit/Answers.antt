use Rattle.std.proofs.Common.{◌≡◌, ◌<◌, false, true, not, get_or, length, vec_items, sym, ap, ◌∙◌, arith, below_more}
use Rattle.std.proofs.lemmas.Bool.{not-true}
use Rattle.std.proofs.lemmas.List.{get_or_default}
use Rattle.sets.specs.Sets.{has}
use Rattle.sets.proofs.Bits.{clash}
use Rattle.table.specs.OfTable.{meaning_of}
use Rattle.walking.proofs.Told.{holding, holder_place}
use Rattle.walking.proofs.Ends.{check_low}
use Rattle.walking.proofs.Onward.{onward_then}
use Rattle.walking.proofs.steps.visit.Goals as goal
use Rattle.walking.proofs.steps.visit.Goals.{then-is_open+then-not-index, else-is_open, else-is_open-via-then-is_open+else-not-index, else-is_open-via-else-is_open}

pub index-requires : goal.index-requires
index-requires c =
    let M = meaning_of c.args.scene.now.table.now in
    let l = c.loop-c in
    let d = get_or c.checks_at-c-items.result.now l.c-index 0 in
    let held = holding M.checks c.args.qubit c.checks_at-c-items.result.now c.checks_at-c-items.ensures l.c-index (omega arith) in
    omega (arith, check_low M.checks d c.args.qubit held, l.invariant.walk.roomy.met, l.ground.met.ok.0)

pub loop-c-preserved : goal.loop-c-preserved
loop-c-preserved c =
    let v = c.args.scene.now in
    let M = meaning_of v.table.now in
    let l = c.loop-c in
    let i = l.invariant in
    let column = c.checks_at-c-items.result.now in
    let d = get_or column l.c-index 0 in
    let held = holding M.checks c.args.qubit column c.checks_at-c-items.ensures l.c-index (omega arith) in
    let low : d < length (vec_items l.ground.met) = omega (arith, check_low M.checks d c.args.qubit held, i.walk.roomy.met) in
    elim c.if-is_open.branch [
      | then-is_open+then-not-index w ↦
          let did = w.meet.ensures in
          rw (w.marks-is, w.ground-is) (record {
            walk = did.walk;
            onward = onward_then _ _ _ _ _ _ _ _ _ i.onward did.onward;
            visited = below_more _ _ (λ k h o. did.onward.met (get_or column k 0) (i.visited k h o)) (λ o. did.met);
            lender = did.lender ∙ i.lender;
          })
      | else-is_open w ↦
          let here : has v.closed.now d ≡ false → has (vec_items l.ground.met) d ≡ true =
          λ o. elim w.else-is_open.branch [
            | else-is_open-via-then-is_open+else-not-index b ↦ sym (sym b.if-not-index.false ∙ b.index.ensures ∙ get_or_default (vec_items l.ground.met) d b.index.result.now false low)
            | else-is_open-via-else-is_open b ↦ absurd (clash (ap not o) (sym c.is_open.ensures ∙ b.if-is_open.false))
          ] in
          rw (w.marks-is, w.ground-is) (record {
            walk = i.walk;
            onward = i.onward;
            visited = below_more _ _ i.visited here;
            lender = i.lender;
          })
    ]

pub meet-requires-clause-touched : goal.meet-requires-clause-touched
meet-requires-clause-touched c =
    let M = meaning_of c.args.scene.now.table.now in
    let l = c.loop-c in
    let d = get_or c.checks_at-c-items.result.now l.c-index 0 in
    record {
      is_open = not-true (has c.args.scene.now.closed.now d) (sym c.is_open.ensures ∙ c.if-is_open.true);
      qubit = c.args.qubit;
      holds = holding M.checks c.args.qubit c.checks_at-c-items.result.now c.checks_at-c-items.ensures l.c-index (omega arith);
      is_in = l.invariant.onward.kept c.args.qubit c.requires.marked;
    }

pub returns-clause-visited : goal.returns-clause-visited
returns-clause-visited c =
    λ d o e.
    let v = c.args.scene.now in
    let p = holder_place (meaning_of v.table.now).checks c.args.qubit c.checks_at-c-items.result.now c.checks_at-c-items.ensures d e in
    ap (has (vec_items c.loop-c.ground.met)) (sym p.2) ∙ c.loop-c.invariant.visited p.0 (omega (arith, p.1)) (ap (has v.closed.now) p.2 ∙ o)
