use Rattle.std.proofs.Common.{◌≡◌, ℕ, ◌<◌, true, false, List, length, sym, ap, ◌∙◌, arith, inl, inr}
use Rattle.sets.specs.Sets.{has, among}
use Rattle.meaning.specs.Meaning.{Meaning, qubits}
use Rattle.rules.specs.States.{State}
use Rattle.rules.specs.Clusters.{cluster}
use Rattle.rules.specs.Run.{passed_over, can_solve}
use Rattle.rules.specs.Calls.{solve}
use Rattle.running.proofs.Lowest.{found_here, found_after}
use Rattle.table.specs.OfTable.{meaning_of}
use Rattle.table.specs.Stands.{table_sound}
use Rattle.upkeep.specs.Statuses.{erased_of}
use Rattle.upkeep.proofs.Holders.{among_elements}
use Rattle.trial.specs.Passing.{ShownBy}
use Rattle.trial.proofs.Done.{long}
use Rattle.trial.proofs.Passes.{void_passes, wanted_here, not_erased, passed_by, passed_with, marked_or_in}
use Rattle.trial.proofs.trial.passing.lowest_solvable.Goals as goal

pub loop-q-preserved-then-not-is_erased : goal.loop-q-preserved-then-not-is_erased
loop-q-preserved-then-not-is_erased c =
    let M : Meaning = meaning_of c.args.board.now.erasures.table.now in
    let q = c.loop-q.q in
    let y = c.args.scratch.now in
    let low : q < qubits M = omega (arith, c.loop-q-test.true, c.qubits-q-end.ensures) in
    record {
      walks = c.loop-q.invariant.walks;
      scratch = c.loop-q.invariant.scratch;
      leads = λ s on.
          let off = ap (λ m. has m q) (on.erased ∙ sym (ap erased_of c.as_slice.ensures.value)) ∙ sym c.is_erased.ensures ∙ c.if-not-is_erased.true in
          found_after (can_solve M y s) (qubits M) q low (not_erased M s y q off) ∙ c.loop-q.invariant.leads s on;
      marks = c.loop-q.invariant.marks;
    }

pub loop-q-preserved-then-is_marked : goal.loop-q-preserved-then-is_marked
loop-q-preserved-then-is_marked c =
    let M : Meaning = meaning_of c.args.board.now.erasures.table.now in
    let q = c.loop-q.q in
    let y = c.args.scratch.now in
    let low : q < qubits M = omega (arith, c.loop-q-test.true, c.qubits-q-end.ensures) in
    let here : has c.loop-q.passed q ≡ true = sym c.is_marked.ensures ∙ c.if-is_marked.true in
    record {
      walks = c.loop-q.invariant.walks;
      scratch = c.loop-q.invariant.scratch;
      leads = λ s on. found_after (can_solve M y s) (qubits M) q low (c.loop-q.invariant.marks s on q here) ∙ c.loop-q.invariant.leads s on;
      marks = c.loop-q.invariant.marks;
    }

pub returns-then-void-clause-finds : goal.returns-then-void-clause-finds
returns-then-void-clause-finds c s on =
    let M : Meaning = meaning_of c.args.board.now.erasures.table.now in
    let q = c.loop-q.q in
    let y = c.args.scratch.now in
    let low : q < qubits M = omega (arith, c.loop-q-test.true, c.qubits-q-end.ensures) in
    let here = ap (λ m. has m q) (on.erased ∙ sym (ap erased_of c.as_slice.ensures.value)) ∙ sym c.is_erased.ensures ∙ c.if-not-is_erased.false in
    sym (found_here (can_solve M y s) (qubits M) q low (wanted_here M s y q here (void_passes M s s.number q y (on.marked ∙ c.if-void.true)))) ∙ c.loop-q.invariant.leads s on

pub returns-then-not-is_passed_over-clause-finds : goal.returns-then-not-is_passed_over-clause-finds
returns-then-not-is_passed_over-clause-finds c s on =
    let M : Meaning = meaning_of c.args.board.now.erasures.table.now in
    let q = c.loop-q.q in
    let y = c.args.scratch.now in
    let low : q < qubits M = omega (arith, c.loop-q-test.true, c.qubits-q-end.ensures) in
    let here = ap (λ m. has m q) (on.erased ∙ sym (ap erased_of c.as_slice.ensures.value)) ∙ sym c.is_erased.ensures ∙ c.if-not-is_erased.false in
    let live : ShownBy c.args.board.now.erasures.status.items c.args.closed.now false s = record { erased = on.erased; closed = on.closed; marked = on.marked ∙ c.if-void.false } in
    let goes = ap (λ (l : List ℕ). passed_over (solve M s s.number q l).0) (sym c.loop-q.invariant.scratch) ∙ sym (c.is_passed_over.ensures.passes s live) ∙ c.if-not-is_passed_over.true in
    sym (found_here (can_solve M y s) (qubits M) q low (wanted_here M s y q here goes)) ∙ c.loop-q.invariant.leads s on

pub loop-q-preserved : goal.loop-q-preserved
loop-q-preserved c =
    let t = c.args.board.now.erasures.table.now in
    let M : Meaning = meaning_of t in
    let q = c.loop-q.q in
    let y = c.args.scratch.now in
    let low : q < qubits M = omega (arith, c.loop-q-test.true, c.qubits-q-end.ensures) in
    let live : (s : State) → ShownBy c.args.board.now.erasures.status.items c.args.closed.now c.args.void s → ShownBy c.args.board.now.erasures.status.items c.args.closed.now false s =
    λ s on. record { erased = on.erased; closed = on.closed; marked = on.marked ∙ c.if-void.false } in
    let here : (s : State) → ShownBy c.args.board.now.erasures.status.items c.args.closed.now c.args.void s → has s.erased q ≡ true =
    λ s on. ap (λ m. has m q) (on.erased ∙ sym (ap erased_of c.as_slice.ensures.value)) ∙ sym c.is_erased.ensures ∙ c.if-not-is_erased.false in
    let passes : (s : State) → ShownBy c.args.board.now.erasures.status.items c.args.closed.now c.args.void s → passed_over (solve M s s.number q y).0 ≡ true =
    λ s on. ap (λ (l : List ℕ). passed_over (solve M s s.number q l).0) (sym c.loop-q.invariant.scratch) ∙ sym (c.is_passed_over.ensures.passes s (live s on)) ∙ c.if-not-is_passed_over.false in
    record {
      walks = c.is_passed_over.ensures.walks ∙ c.loop-q.invariant.walks;
      scratch = c.is_passed_over.ensures.scratch ∙ c.loop-q.invariant.scratch;
      leads = λ s on. found_after (can_solve M y s) (qubits M) q low (passed_by M s y q (here s on) (passes s on)) ∙ c.loop-q.invariant.leads s on;
      marks = λ s on j h.
          let names = c.members.ensures ∙ c.is_passed_over.ensures.members c.if-not-is_passed_over.false s (live s on) in
          elim (marked_or_in c.members.result.now c.loop-q.passed j (ap (λ m. has m j) (sym c.mark.ensures) ∙ h)) [
            | inl a ↦ passed_with M s y q (table_sound t) (ap length on.erased ∙ (long c.args.board.now s).erased) (here s on) (passes s on) j (sym (among_elements (cluster M s q) j) ∙ ap (among j) (sym names) ∙ a)
            | inr b ↦ c.loop-q.invariant.marks s on j b
          ];
    }
