use Rattle.std.proofs.Common.{◌≡◌, ◌<◌, ◌+◌, ◌-◌, [], drop, length, map, inl, inr, refl, sym, ap, ◌∙◌, subst, arith}
use Rattle.std.specs.List.{range_with_len}
use Rattle.std.proofs.lemmas.List.{with_items_is}
use Rattle.rows.specs.Crossing.{times, namers}
use Rattle.rows.proofs.Growing.{Filled, filled_none, cuts_full, rising_full}
use Rattle.rows.proofs.Named.{next_row, namers_past}
use Rattle.rows.proofs.Marking.{counts, counts_joined, marking_none, marking_all, marking_past, marking_inside, marking_more}
use Rattle.rows.proofs.Rows.crossing.Goals as goal
use Rattle.rows.proofs.Rows.crossing.Goals.{In-None, in-Some-get_mut, in_default}

pub loop-k-init : goal.loop-k-init
loop-k-init c =
    let counted = ap (λ l. map (λ q. times q l) (range_with_len 0 c.args.columns)) c.first.ensures in
    let ends : c.deref_mut.result.now ≡ counts c.args.self.now c.args.count c.args.columns = c.deref_mut.ensures.value ∙ c.in_ok-ends.ensures ∙ counted ∙ sym (counts_joined c.args.self.now c.args.count c.args.columns) in
    rw (c.into_iter-k-iterator.ensures.into_iter_gives, c.zip-k-items.ensures.first, c.zip-k-items.ensures.second, c.iter.ensures, with_items_is c.in_ok-ends.ends c.lay.new.counts (omega arith)) (
      filled_none (counts c.args.self.now c.args.count c.args.columns) c.lay.new.counts c.in_ok-places.places.items c.in_ok-end.end (omega (arith, ap length ends)) (omega (arith, c.in_ok-places.ensures.len)) (rw ends at c.in_ok-end.ensures),
      refl,
      refl,
      omega arith,
    )

pub loop-q-init : goal.loop-q-init
loop-q-init c =
    let s = c.in-Some.ensures.steps in
    let next = next_row c.args.self.now c.next.new.self.b c.loop-k.k-iterator.a.start c.in-Some.row.now (sym c.loop-k.invariant.1 ∙ s.1) in
    rw s.0.1.1 (marking_none c.loop-k.invariant.0 next.0 (omega (arith, s.0.1.0, c.loop-k.invariant.2)))

pub index_mut-requires : goal.index_mut-requires
index_mut-requires c = omega (arith, marking_inside c.loop-q.invariant c.loop-q-test.true c.in-Some-get_mut.next.now c.in-Some-get_mut.ensures.item.3)

pub overflow_add-next : goal.overflow_add-next
overflow_add-next c = omega (arith, marking_inside c.loop-q.invariant c.loop-q-test.true c.in-Some-get_mut.next.now c.in-Some-get_mut.ensures.item.3)

pub loop-q-preserved : goal.loop-q-preserved
loop-q-preserved c =
    elim c.match-get_mut.branch [
      | in-Some-get_mut w ↦ rw (w.ends-is, w.places-is) (marking_more c.loop-q.invariant c.loop-q-test.true w.in-Some-get_mut.next.now w.in-Some-get_mut.ensures.item.3)
      | in_default w ↦ rw (w.ends-is, w.places-is) (marking_past c.loop-q.invariant c.loop-q-test.true w.in_default.ensures.item.3)
    ]

pub loop-k-preserved : goal.loop-k-preserved
loop-k-preserved c =
    let s = c.in-Some.ensures.steps in
    let next = next_row c.args.self.now c.next.new.self.b c.loop-k.k-iterator.a.start c.in-Some.row.now (sym c.loop-k.invariant.1 ∙ s.1) in
    rw s.0.1.2 (rw s.0.1.1 at (marking_all c.loop-q.invariant (omega arith)), next.1, s.0.0 ∙ c.loop-k.invariant.2, omega (arith, s.0.1.0, c.loop-k.invariant.2))

-- no row is left
full : (c : In-None) → Filled (counts c.args.self.now c.args.count c.args.columns) (λ q. namers c.args.self.now q c.args.count) c.loop-k.ends.items c.loop-k.places.items
full c =
    let rows = c.args.self.now in
    let k = c.loop-k.k-iterator.a.start in
    let d = c.args.count - k in
    let past : 0 < d → drop k rows ≡ [] = λ z. sym c.loop-k.invariant.1 ∙ elim c.in-None.ensures.steps [ inl e ↦ absurd (omega (arith, e.1.1, c.loop-k.invariant.2)) | inr e ↦ e.1.0 ] in
    let all : d + k ≡ c.args.count = omega (arith, c.loop-k.invariant.3) in
    subst (λ g. Filled (counts rows c.args.count c.args.columns) g c.loop-k.ends.items c.loop-k.places.items) (λ i q. (sym (namers_past rows q k d past) ∙ ap (namers rows q) all) i) c.loop-k.invariant.0

pub invariant_of-result : goal.invariant_of-result
invariant_of-result c = rising_full (λ q. namers c.args.self.now q c.args.count) c.args.columns _ _ (full c)

pub returns : goal.returns
returns c = cuts_full (λ q. namers c.args.self.now q c.args.count) c.args.columns _ _ (full c)
