use Rattle.std.proofs.Common.{◌+◌, ◌≤◌, Err, Result, sym, ap, ◌∙◌, subst, arith}
use Rattle.std.proofs.lemmas.Result.{err_from_is_err_and}
use Rattle.terms.specs.declared.refusal.Refusal.{Refusal}
use Rattle.meaning.specs.Meaning.{qubits}
use Rattle.rules.specs.Calls.{prune_bars}
use Rattle.table.specs.Stands.{table_sound}
use Rattle.upkeep.specs.Fault.{fault}
use Rattle.upkeep.proofs.Faults.{fault_some}
use Rattle.upkeep.proofs.Finish.{total}
use Rattle.trial.specs.Standing.{Standing}
use Rattle.trial.specs.Seen.{standing_of}
use Rattle.trial.proofs.Checked.{passes, stops}
use Rattle.trial.proofs.Done.{code, room}
use Rattle.trial.proofs.Prunes.{is_qubit, erased_is, prunes}
use Rattle.trial.proofs.trial.Trial.prune.Goals as goal

pub returns-in_err-prune_fault-clause-does : goal.returns-in_err-prune_fault-clause-does
returns-in_err-prune_fault-clause-does c =
    let t = c.args.self.now in
    let bars = prune_bars (code t) t.state c.args.slip.now.number c.args.qubit c.args.generators.now in
    let p = err_from_is_err_and c.from_residual.result c.from_residual.ensures.1 in
    ap (λ (r : Result (Unit {0}) Refusal). (r, t.state)) p.1 ∙ sym (fault_some t.state _ bars p.0 (stops p.0 (fault bars) (ap Err p.2 ∙ c.in_err-prune_fault.ensures)))

pub overflow_add-self : goal.overflow_add-self
overflow_add-self c = omega (arith, c.self.inside.sized.few, (table_sound c.self.inside.board.erasures.table.now).few_qubits)

pub invariant_of-self-inside : goal.invariant_of-self-inside
invariant_of-self-inside c =
    let t = c.args.self.now in
    let slip = c.args.slip.now.number in
    let q = c.args.qubit in
    let l = c.args.generators.now in
    let fine = passes (fault (prune_bars (code t) t.state slip q l)) _ c.in_ok-prune_fault.ensures in
    let more = room t c.finish.new.self q _ (is_qubit t slip q l fine) (erased_is t slip q l fine) c.finish.ensures.does c.finish.ensures.table in
    let left = subst (λ (s : Standing). total s.state + 1 ≤ qubits (code s)) (sym c.self.view_is) more in
    let i = c.self.inside.sized in
    (record { erased = i.erased; shelved = i.shelved; flipped = i.flipped; closed = i.closed; odds = i.odds; waiting = i.waiting; few = omega (arith, left) }, (c.self.inside.equipped, tt))

pub returns-clause-does : goal.returns-clause-does
returns-clause-does c =
    let t = c.args.self.now in
    let slip = c.args.slip.now.number in
    let q = c.args.qubit in
    let l = c.args.generators.now in
    let fine = passes (fault (prune_bars (code t) t.state slip q l)) _ c.in_ok-prune_fault.ensures in
    prunes t slip q l fine (standing_of c.self.inside).state (ap (λ (s : Standing). s.state) c.self.view_is ∙ c.finish.ensures.does)
