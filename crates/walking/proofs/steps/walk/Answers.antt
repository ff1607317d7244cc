use Rattle.std.proofs.Common.{ℕ, ◌<◌, List, [], ◌∷◌, length, vec_items, refl, sym, ap, ◌∙◌, subst, inl, inr, arith, length-append}
use Rattle.std.proofs.lemmas.List.{length-map}
use Rattle.sets.specs.Lists.{In}
use Rattle.sets.specs.Sets.{has, row}
use Rattle.sets.proofs.Sets.{has_below}
use Rattle.rules.specs.Clusters.{itself}
use Rattle.table.specs.OfTable.{meaning_of}
use Rattle.upkeep.specs.Statuses.{erased_of, is_erased}
use Rattle.walking.proofs.Ends.{one_more, new_in}
use Rattle.walking.proofs.Walking.{begun, took, took_onward, took_it, popped, members_space}
use Rattle.walking.proofs.steps.walk.Goals as goal

pub loop-q-init : goal.loop-q-init
loop-q-init c =
    let v = c.args.scene.now in
    let long = length-map v.status.now is_erased ∙ v.statuses in
    let n = c.args.marks.now.qubits in
    let m = c.args.marks.now.scratch.now in
    let g = c.args.ground.now in
    let r = c.requires in
    let w = begun v n m g r.rested r.bare r.unmarked in
    let low : v.start < n = omega (arith, has_below (erased_of v.status.now) v.start v.erased, long, r.unmarked.all) in
    let p = c.push.new.self in
    let put = c.push.ensures in
    let n' = c.mark.new.self.qubits in
    let m' = c.mark.new.self.scratch.now in
    let did = c.mark.ensures in
    let free = r.unmarked.unmarked v.start in
    let on = took_onward v n m g w v.start itself low free p put.room put.list n' m' did.size did.bytes in
    record {
      walk = took v n m g w v.start itself low free p put.room put.list n' m' did.size did.bytes;
      first = took_it v n m g w v.start itself low free p put.room put.list n' m' did.size did.bytes;
      visited = λ i h. absurd (subst (λ (x : List ℕ). In i x) r.bare.members h);
      same = record { size = on.size; long = on.long; beyond = on.beyond };
      lender = did.lender;
    }

pub push_reserved-requires : goal.push_reserved-requires
push_reserved-requires c =
    let v = c.args.scene.now in
    let l = c.loop-q in
    let w = l.invariant.walk in
    let q = c.in-Some.q in
    let waits = new_in q q c.pop.new.self.list l.ground.pending.list c.in-Some.ensures.list refl in
    omega (arith, members_space v l.marks.qubits l.marks.scratch.now l.ground w q waits, w.roomy.members, l.ground.members.ok.0)

pub visit-requires-clause-walk : goal.visit-requires-clause-walk
visit-requires-clause-walk c =
    let v = c.args.scene.now in
    let l = c.loop-q in
    let o = c.in-Some.ensures in
    let put = c.push_reserved.ensures in
    popped v l.marks.qubits l.marks.scratch.now l.ground (record l.ground { pending = c.pop.new.self; members = c.push_reserved.new.self }) l.invariant.walk c.in-Some.q o.list o.room put.items put.capacity refl refl refl

pub visit-requires-clause-marked : goal.visit-requires-clause-marked
visit-requires-clause-marked c =
    let q = c.in-Some.q in
    c.loop-q.invariant.walk.qubits.waits q (new_in q q c.pop.new.self.list c.loop-q.ground.pending.list c.in-Some.ensures.list refl)

pub loop-q-smaller : goal.loop-q-smaller
loop-q-smaller c =
    let v = c.args.scene.now in
    let l = c.loop-q in
    let w = l.invariant.walk in
    let q = c.in-Some.q in
    let waits = new_in q q c.pop.new.self.list l.ground.pending.list c.in-Some.ensures.list refl in
    let space = members_space v l.marks.qubits l.marks.scratch.now l.ground w q waits in
    let more = ap length c.visit.ensures.onward.members in
    omega (arith, space, more, ap length c.push_reserved.ensures.items, length-append (vec_items l.ground.members) (q ∷ []), c.visit.ensures.onward.size, l.ground.members.ok.0, c.visit.new.ground.members.ok.0)

pub loop-q-preserved : goal.loop-q-preserved
loop-q-preserved c =
    let v = c.args.scene.now in
    let l = c.loop-q in
    let i = l.invariant in
    let q = c.in-Some.q in
    let on = c.visit.ensures.onward in
    record {
      walk = c.visit.ensures.walk;
      first = on.kept v.start i.first;
      visited = λ k h d a b. elim (one_more k q (vec_items l.ground.members) (vec_items c.visit.new.ground.members) (on.members ∙ c.push_reserved.ensures.items) h) [
        | inl e ↦ on.met d (i.visited k e d a b)
        | inr e ↦ c.visit.ensures.visited d a (ap (has (row (meaning_of v.table.now).checks d)) (sym e) ∙ b)
      ];
      same = record { size = on.size ∙ i.same.size; long = on.long ∙ i.same.long; beyond = on.beyond ∙ i.same.beyond };
      lender = c.visit.ensures.lender ∙ i.lender;
    }
