use Rattle.std.proofs.Common.{◌≡◌, ◌<◌, true, get_or, sym, ap, ◌∙◌, arith, below_more}
use Rattle.sets.specs.Sets.{has}
use Rattle.sets.proofs.Bits.{clash}
use Rattle.rules.specs.Clusters.{same_side}
use Rattle.table.specs.OfTable.{meaning_of}
use Rattle.table.specs.Stands.{table_sound}
use Rattle.upkeep.specs.Statuses.{erased_of}
use Rattle.marks.specs.Marks.{is_marked}
use Rattle.walking.specs.Seen.{seen}
use Rattle.walking.specs.Scenes.{code_of, state_of, beside}
use Rattle.walking.proofs.Told.{named, place_of}
use Rattle.walking.proofs.Ends.{held_low}
use Rattle.walking.proofs.Onward.{onward_then, still_touched}
use Rattle.walking.proofs.Walking.{reached_more, pending_space, took, took_onward, took_it}
use Rattle.walking.proofs.steps.spread.Goals as goal
use Rattle.walking.proofs.steps.spread.Goals.{then-is_beside+then-not-is_marked, else-is_beside, else-is_beside-via-then-is_beside+else-not-is_marked, else-is_beside-via-else-is_beside}

pub push-requires : goal.push-requires
push-requires c =
    let v = c.args.scene.now in
    let M = meaning_of v.table.now in
    let l = c.loop-q in
    let w = l.invariant.walk in
    let j = get_or c.row-q-items.result.now l.q-index 0 in
    let held = named v.table.now c.args.check c.row-q-items.result.now c.row-q-items.ensures l.q-index (omega arith) in
    let low : j < l.marks.qubits = omega (arith, held_low M (table_sound v.table.now) c.args.check j held, w.roomy.all) in
    pending_space v l.marks.qubits l.marks.scratch.now l.ground w j low (sym c.is_marked.ensures ∙ c.if-not-is_marked.true)

pub loop-q-preserved : goal.loop-q-preserved
loop-q-preserved c =
    let v = c.args.scene.now in
    let M = code_of v in
    let l = c.loop-q in
    let i = l.invariant in
    let w = i.walk in
    let n = l.marks.qubits in
    let m = l.marks.scratch.now in
    let row = c.row-q-items.result.now in
    let j = get_or row l.q-index 0 in
    let held = named v.table.now c.args.check row c.row-q-items.ensures l.q-index (omega arith) in
    let low : j < n = omega (arith, held_low M (table_sound v.table.now) c.args.check j held, w.roomy.all) in
    let t = still_touched M (state_of v) _ _ _ n m l.ground i.onward c.args.check c.requires.touched in
    elim c.if-is_beside.branch [
      | then-is_beside+then-not-is_marked b ↦
          let free = sym b.is_marked.ensures ∙ b.if-not-is_marked.true in
          let there = sym c.is_beside.ensures ∙ b.if-is_beside.true in
          let r = reached_more v n m l.ground w c.args.check t j held there in
          let p = b.push.new.self in
          let n' = b.mark.new.self.qubits in
          let m' = b.mark.new.self.scratch.now in
          let did = b.mark.ensures in
          let put = b.push.ensures in
          let on = took_onward v n m l.ground w j r low free p put.room put.list n' m' did.size did.bytes in
          rw (b.marks-is, b.ground-is) (record {
            walk = took v n m l.ground w j r low free p put.room put.list n' m' did.size did.bytes;
            onward = onward_then _ _ _ n m l.ground n' m' (record l.ground { pending = p }) i.onward on;
            same = i.same;
            swept = below_more _ _ (λ k h e. on.kept (get_or row k 0) (i.swept k h e)) (λ e. took_it v n m l.ground w j r low free p put.room put.list n' m' did.size did.bytes);
            lender = did.lender ∙ i.lender;
          })
      | else-is_beside b ↦
          let here : has (beside v) j ≡ true → is_marked n m j ≡ true =
          λ e. elim b.else-is_beside.branch [
            | else-is_beside-via-then-is_beside+else-not-is_marked b' ↦ sym b'.is_marked.ensures ∙ b'.if-not-is_marked.false
            | else-is_beside-via-else-is_beside b' ↦ absurd (clash e (sym c.is_beside.ensures ∙ b'.if-is_beside.false))
          ] in
          rw (b.marks-is, b.ground-is) (record {
            walk = w;
            onward = i.onward;
            same = i.same;
            swept = below_more _ _ i.swept here;
            lender = i.lender;
          })
    ]

pub returns-clause-swept : goal.returns-clause-swept
returns-clause-swept c =
    λ k e h.
    let v = c.args.scene.now in
    let p = place_of v.table.now c.args.check c.row-q-items.result.now c.row-q-items.ensures k e in
    let same = has (same_side (meaning_of v.table.now) (seen (erased_of v.status.now) v.closed.now) v.start) in
    ap (is_marked c.loop-q.marks.qubits c.loop-q.marks.scratch.now) (sym p.2)
    ∙ c.loop-q.invariant.swept p.0 (omega (arith, p.1)) (ap same p.2 ∙ h)
