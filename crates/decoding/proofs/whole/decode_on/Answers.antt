use Rattle.std.proofs.Common.{◌≡◌, ◌≤◌, ℕ, false, ltb, List, [], length, replicate, Ok, Err, Result, sym, ap, ap₂, ◌∙◌, subst, arith, rules, le-ltb}
use Rattle.std.proofs.lemmas.Result.{err_from_is_err_and}
use Rattle.terms.specs.declared.refusal.Refusal.{Refusal}
use Rattle.meaning.specs.Meaning.{Meaning, qubits}
use Rattle.rules.specs.declared.answers.Verdict.{Verdict}
use Rattle.rules.specs.Run.{run}
use Rattle.table.specs.OfTable.{meaning_of}
use Rattle.table.specs.declared.Table.{Table}
use Rattle.trial.specs.Closing.{TellsTruth}
use Rattle.rules.specs.States.{State}
use Rattle.rules.specs.Tallies.{Opened, open_trial, close, copy_out}
use Rattle.trial.specs.Opening.{Opens, opened_of}
use Rattle.upkeep.specs.Fault.{fault}
use Rattle.trial.proofs.Checked.{passes, stops}
use Rattle.decoding.specs.Running.{run_from, decode_bars, decoded, Decodes}
use Rattle.decoding.proofs.Decided.{pair, is_given, out}
use Rattle.decoding.proofs.Ran.{not_opened, not_taken, is_decoded, told_true}
use Rattle.decoding.proofs.whole.decode_on.Goals as goal

pub returns-in_err-opened-clause-does : goal.returns-in_err-opened-clause-does
returns-in_err-opened-clause-does c =
    let M : Meaning = meaning_of c.args.table.now in
    let t = c.args.tally.now.counts in
    let u = c.open.new.tally.counts in
    let lost = c.args.report.lost.now in
    let odds = c.args.report.odd.now in
    let w = c.args.switches in
    let b = c.args.buffer.now in
    let p = err_from_is_err_and c.from_residual-in_err-opened.result c.from_residual-in_err-opened.ensures.1 in
    let refused = c.in_err-opened.ensures.does in
    let fine = passes (fault (decode_bars M lost odds w b)) _ c.in_ok-decode_fault.ensures in
    subst (λ (r : Result Verdict Refusal). Decodes r t b u b (decoded M t lost odds w b)) (sym (p.1 ∙ ap (λ (f : Refusal). Err f) p.2)) (not_opened M t lost odds w b fine c.in_err-opened.field-0.0 u refused)

pub returns-in_err-decode_fault-clause-does : goal.returns-in_err-decode_fault-clause-does
returns-in_err-decode_fault-clause-does c =
    let M : Meaning = meaning_of c.args.table.now in
    let t = c.args.tally.now.counts in
    let lost = c.args.report.lost.now in
    let odds = c.args.report.odd.now in
    let w = c.args.switches in
    let b = c.args.buffer.now in
    let p = err_from_is_err_and c.from_residual.result c.from_residual.ensures.1 in
    subst (λ (r : Result Verdict Refusal). Decodes r t b t b (decoded M t lost odds w b)) (sym p.1)
    (not_taken M t lost odds w b p.0 (stops p.0 (fault (decode_bars M lost odds w b)) (ap Err p.2 ∙ c.in_err-decode_fault.ensures)))

pub run_through-requires-clause-shown : goal.run_through-requires-clause-shown
run_through-requires-clause-shown c =
    let M : Meaning = meaning_of c.args.table.now in
    let t = c.args.tally.now.counts in
    let u = c.open.new.tally.counts in
    let lost = c.args.report.lost.now in
    let odds = c.args.report.odd.now in
    let o = opened_of c.in_ok-opened.opened in
    let e : open_trial M t lost odds ≡ (Ok o, u) = pair c.in_ok-opened.ensures.does in
    let same = is_given M t lost odds [] c.args.tally.now.balanced o u e in
    ap (λ (x : Opened). x.slip) same ∙ sym (ap (λ (x : Opened). x.trial.number) same)

pub run_through-requires-clause-out : goal.run_through-requires-clause-out
run_through-requires-clause-out c =
    let M : Meaning = meaning_of c.args.table.now in
    let t = c.args.tally.now.counts in
    let u = c.open.new.tally.counts in
    let lost = c.args.report.lost.now in
    let odds = c.args.report.odd.now in
    let o = opened_of c.in_ok-opened.opened in
    let e : open_trial M t lost odds ≡ (Ok o, u) = pair c.in_ok-opened.ensures.does in
    out M t lost odds [] c.args.tally.now.balanced o u e

pub returns-clause-does : goal.returns-clause-does
returns-clause-does c =
    let M : Meaning = meaning_of c.args.table.now in
    let t = c.args.tally.now.counts in
    let u = c.open.new.tally.counts in
    let lost = c.args.report.lost.now in
    let odds = c.args.report.odd.now in
    let w = c.args.switches in
    let b = c.args.buffer.now in
    let o = opened_of c.in_ok-opened.opened in
    let v : Verdict = c.run_through.result in
    let e : open_trial M t lost odds ≡ (Ok o, u) = pair c.in_ok-opened.ensures.does in
    let fine = passes (fault (decode_bars M lost odds w b)) _ c.in_ok-decode_fault.ensures in
    let code = ap (λ (x : Table). meaning_of x) c.in_ok-opened.ensures.table in
    let made : c.in_ok-scratch.scratch.items ≡ replicate c.qubits.result 0 = search rules in
    let zeros : c.as_mut_slice.result.now ≡ replicate (qubits M) 0 = c.as_mut_slice.ensures.value ∙ made ∙ ap (λ n. replicate n 0) c.qubits.ensures in
    let end : (run (meaning_of c.in_ok-opened.opened.trial.table) o.trial o.slip w c.as_mut_slice.result.now).1 ≡ run_from M w o =
    ap₂ (λ m l. (run m o.trial o.slip w l).1) code zeros in
    is_decoded M t lost odds w b fine o u e v c.run_through.new.tally.counts c.run_through.new.buffer
    (c.run_through.ensures.answer ∙ ap (λ (s : State). (close s o.slip u).answer) end)
    (c.run_through.ensures.tally ∙ ap (λ (s : State). (close s o.slip u).tally) end)
    (c.run_through.ensures.buffer ∙ ap₂ (λ m s. (copy_out m s b).1) code end)

pub returns-clause-truth : goal.returns-clause-truth
returns-clause-truth c =
    let M : Meaning = meaning_of c.args.table.now in
    let t = c.args.tally.now.counts in
    let u = c.open.new.tally.counts in
    let lost = c.args.report.lost.now in
    let odds = c.args.report.odd.now in
    let w = c.args.switches in
    let o = opened_of c.in_ok-opened.opened in
    let v : Verdict = c.run_through.result in
    let e : open_trial M t lost odds ≡ (Ok o, u) = pair c.in_ok-opened.ensures.does in
    let code = ap (λ (x : Table). meaning_of x) c.in_ok-opened.ensures.table in
    let made : c.in_ok-scratch.scratch.items ≡ replicate c.qubits.result 0 = search rules in
    let zeros : c.as_mut_slice.result.now ≡ replicate (qubits M) 0 = c.as_mut_slice.ensures.value ∙ made ∙ ap (λ n. replicate n 0) c.qubits.ensures in
    let here = subst (λ (m : Meaning). TellsTruth m (run m o.trial o.slip w c.as_mut_slice.result.now).1 (Ok v)) code c.run_through.ensures.truth in
    told_true M t u lost odds w o v e (subst (λ (l : List ℕ). TellsTruth M (run M o.trial o.slip w l).1 (Ok v)) zeros here)
