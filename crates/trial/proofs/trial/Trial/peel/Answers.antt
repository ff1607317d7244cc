use Rattle.std.proofs.Common.{◌≡◌, ℕ, ◌+◌, ◌<◌, ◌≤◌, false, length, get_or, Err, Result, sym, ap, ◌∙◌, subst, arith}
use Rattle.std.proofs.lemmas.List.{get_or_read}
use Rattle.std.proofs.lemmas.Result.{err_from_is_err_and}
use Rattle.terms.specs.declared.refusal.Refusal.{Refusal}
use Rattle.meaning.specs.Meaning.{qubits}
use Rattle.rules.specs.Calls.{peel_bars}
use Rattle.table.specs.Stands.{table_sound}
use Rattle.upkeep.specs.Fault.{fault}
use Rattle.upkeep.proofs.Faults.{fault_some}
use Rattle.upkeep.proofs.Finish.{total}
use Rattle.trial.specs.Standing.{Standing}
use Rattle.trial.specs.Seen.{standing_of}
use Rattle.trial.proofs.Checked.{passes, stops}
use Rattle.trial.proofs.Done.{code, room}
use Rattle.trial.proofs.Peels.{is_check, at_fields, some_erased, erased_is, is_qubit, peels}
use Rattle.trial.proofs.trial.Trial.peel.Goals as goal

pub returns-in_err-peel_fault-clause-does : goal.returns-in_err-peel_fault-clause-does
returns-in_err-peel_fault-clause-does c =
    let t = c.args.self.now in
    let bars = peel_bars (code t) t.state c.args.slip.now.number c.args.check in
    let p = err_from_is_err_and c.from_residual.result c.from_residual.ensures.1 in
    ap (λ (r : Result ℕ Refusal). (r, t.state)) p.1 ∙ sym (fault_some t.state _ bars p.0 (stops p.0 (fault bars) (ap Err p.2 ∙ c.in_err-peel_fault.ensures)))

pub unreachable-requires : goal.unreachable-requires
unreachable-requires c =
    let t = c.args.self.now in
    let slip = c.args.slip.now.number in
    let k = c.args.check in
    let fine = passes (fault (peel_bars (code t) t.state slip k)) _ c.in_ok-peel_fault.ensures in
    some_erased t slip k fine
    (c.in_default.ensures ∙ at_fields t slip k fine c.self.inside c.self.view_is _ _ c.as_slice.ensures.value c.row-row.ensures)

pub finish-requires : goal.finish-requires
finish-requires c =
    let t = c.args.self.now in
    let slip = c.args.slip.now.number in
    let k = c.args.check in
    let fine = passes (fault (peel_bars (code t) t.state slip k)) _ c.in_ok-peel_fault.ensures in
    is_qubit t slip k fine c.in-Some.qubit
    (c.in-Some.ensures ∙ at_fields t slip k fine c.self.inside c.self.view_is _ _ c.as_slice.ensures.value c.row-row.ensures)

pub overflow_add-self : goal.overflow_add-self
overflow_add-self c = omega (arith, c.self-2.inside.sized.few, (table_sound c.self-2.inside.board.erasures.table.now).few_qubits)

pub invariant_of-self-inside : goal.invariant_of-self-inside
invariant_of-self-inside c =
    let t = c.args.self.now in
    let slip = c.args.slip.now.number in
    let k = c.args.check in
    let q = c.in-Some.qubit in
    let fine = passes (fault (peel_bars (code t) t.state slip k)) _ c.in_ok-peel_fault.ensures in
    let found = c.in-Some.ensures ∙ at_fields t slip k fine c.self.inside c.self.view_is _ _ c.as_slice.ensures.value c.row-row.ensures in
    let more = room t c.finish.new.self q _ (is_qubit t slip k fine q found) (erased_is t slip k fine q found) c.finish.ensures.does c.finish.ensures.table in
    let left = subst (λ (s : Standing). total s.state + 1 ≤ qubits (code s)) (sym c.self-2.view_is) more in
    let i = c.self-2.inside.sized in
    (record { erased = i.erased; shelved = i.shelved; flipped = i.flipped; closed = i.closed; odds = i.odds; waiting = i.waiting; few = omega (arith, left) }, (c.self-2.inside.equipped, tt))

pub returns-clause-does : goal.returns-clause-does
returns-clause-does c =
    let t = c.args.self.now in
    let slip = c.args.slip.now.number in
    let k = c.args.check in
    let q = c.in-Some.qubit in
    let flip = c.index-flip.result.now in
    let fine = passes (fault (peel_bars (code t) t.state slip k)) _ c.in_ok-peel_fault.ensures in
    let found = c.in-Some.ensures ∙ at_fields t slip k fine c.self.inside c.self.view_is _ _ c.as_slice.ensures.value c.row-row.ensures in
    let low : k < length t.state.odds = omega (arith, is_check t slip k fine, t.sized.odds) in
    let odd = get_or_read t.state.odds k flip low (subst (λ (s : Standing). flip ≡ get_or s.state.odds k flip) c.self.view_is c.index-flip.ensures) false in
    peels t slip k fine q found (standing_of c.self-2.inside).state flip odd (ap (λ (s : Standing). s.state) c.self-2.view_is ∙ c.finish.ensures.does)
