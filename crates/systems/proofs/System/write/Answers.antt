use Rattle.std.proofs.Common.{◌≡◌, ℕ, ◌+◌, ◌<◌, Bool, false, List, length, get_or, take, sym, refl, ap, ◌∙◌, subst, arith}
use Rattle.sets.specs.Lists.{In, Distinct}
use Rattle.sets.specs.Sets.{size, elements, row, among}
use Rattle.sets.proofs.Lists.{in_get_or}
use Rattle.sets.proofs.Numbers.{length_elements}
use Rattle.linear.specs.Field.{bits}
use Rattle.table.specs.OfTable.{meaning_of}
use Rattle.elimination.specs.Holds.{Holds}
use Rattle.systems.specs.declared.System.{System}
use Rattle.systems.specs.Stated.{unknowns_of}
use Rattle.systems.proofs.Places.{written_of, written_none, written_put, written_left, written_all}
use Rattle.systems.proofs.Qubits.{inside, told_once, told_names, told_low}
use Rattle.systems.proofs.System.write.Goals as goal
use Rattle.systems.proofs.System.write.Goals.{in-Some, in_default}

pub loop-qubit-init : goal.loop-qubit-init
loop-qubit-init c =
    record {
      same = refl;
      met = refl;
      written = λ k rows e h. subst (λ (w : List Bool). Holds bits c.args.self.now.elimination (size k) rows w) (written_none k) h;
    }

pub loop-qubit-preserved : goal.loop-qubit-preserved
loop-qubit-preserved c =
    let told = c.row-qubit-items.result.now in
    let j : ℕ = c.loop-qubit.qubit-index in
    let once : Distinct told = subst (λ (l : List ℕ). Distinct l) (sym c.row-qubit-items.ensures) (told_once c.args.table.now c.args.check) in
    let low : get_or told j 0 < 2048 =
    told_low c.args.table.now c.args.check (get_or told j 0) (subst (λ (l : List ℕ). In (get_or told j 0) l) c.row-qubit-items.ensures (in_get_or told j 0 c.loop-qubit-test.true)) in
    let lent : (k : List Bool) → elements k ≡ unknowns_of c.args.self.now → elements k ≡ unknowns_of c.loop-qubit.self = λ k e. e ∙ sym c.loop-qubit.invariant.same in
    elim c.match-place.branch [
      | in-Some w ↦
          record {
            same = ap unknowns_of w.self-is ∙ c.loop-qubit.invariant.same;
            met = ap (λ (s : System). s.met.items) w.self-is ∙ c.loop-qubit.invariant.met;
            written = λ k rows e h.
                let at = c.place.ensures.place low w.in-Some.place w.in-Some.is in
                let low_ : w.in-Some.place < length (elements k) = omega (arith, at.0, ap length (lent k e)) in
                let low' : w.in-Some.place < size k = omega (arith, low_, length_elements 0 k) in
                let is : get_or (elements k) w.in-Some.place 0 ≡ get_or told j 0 = ap (λ l. get_or l w.in-Some.place 0) (lent k e) ∙ at.1 in
                let put = inside w.put.result (size k) w.in-Some.place _ low' (w.put.ensures.put (size k) rows (written_of k (take j told)) (c.loop-qubit.invariant.written k rows e h)) in
                subst (λ (s : System). Holds bits s.elimination (size k) rows (written_of k (take (j + 1) told))) (sym w.self-is)
                (subst (λ (l : List Bool). Holds bits w.put.new.self (size k) rows l) (written_put k told j once c.loop-qubit-test.true w.in-Some.place low_ is) put);
          }
      | in_default w ↦
          record {
            same = ap unknowns_of w.self-is ∙ c.loop-qubit.invariant.same;
            met = ap (λ (s : System). s.met.items) w.self-is ∙ c.loop-qubit.invariant.met;
            written = λ k rows e h.
                let E : List ℕ → Type 0 = λ l. among (get_or told j 0) l ≡ false in
                let none = subst E (sym (lent k e)) (c.place.ensures.none low w.in_default.is) in
                subst (λ (s : System). Holds bits s.elimination (size k) rows (written_of k (take (j + 1) told))) (sym w.self-is)
                (subst (λ (l : List Bool). Holds bits c.loop-qubit.self.elimination (size k) rows l) (written_left k told j once c.loop-qubit-test.true none) (c.loop-qubit.invariant.written k rows e h));
          }
    ]

pub returns-clause-written : goal.returns-clause-written
returns-clause-written c k rows e h =
    let told = c.row-qubit-items.result.now in
    subst (λ (l : List Bool). Holds bits c.loop-qubit.self.elimination (size k) rows l)
    (written_all k told c.loop-qubit.qubit-index (row (meaning_of c.args.table.now).checks c.args.check) c.loop-qubit-test.false
    (λ q. ap (among q) c.row-qubit-items.ensures ∙ told_names c.args.table.now c.args.check q))
    (c.loop-qubit.invariant.written k rows e h)
