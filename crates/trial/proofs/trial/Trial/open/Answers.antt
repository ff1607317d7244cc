use Rattle.std.proofs.Common.{leb-false, Err, Result, sym, ap, ◌∙◌, subst}
use Rattle.std.proofs.lemmas.Result.{err_from_is_err_and}
use Rattle.terms.specs.declared.refusal.Refusal.{Refusal}
use Rattle.rules.specs.Tallies.{open_bars, open_trial}
use Rattle.table.specs.OfTable.{meaning_of}
use Rattle.upkeep.specs.Fault.{fault}
use Rattle.upkeep.proofs.Faults.{fault_clear}
use Rattle.trial.specs.Opening.{Opens}
use Rattle.trial.specs.declared.trial.opening.Opened.{Opened}
use Rattle.trial.proofs.Checked.{passes, stops}
use Rattle.trial.proofs.Opens.{refuses, opens, numbered}
use Rattle.trial.proofs.trial.Trial.open.Goals as goal

pub returns-in_err-check-clause-does : goal.returns-in_err-check-clause-does
returns-in_err-check-clause-does c =
    let M = meaning_of c.args.table.now in
    let tally = c.args.tally.now.counts in
    let lost = c.args.report.lost.now in
    let odds = c.args.report.odd.now in
    let p = err_from_is_err_and c.from_residual.result c.from_residual.ensures.1 in
    subst (λ (r : Result Opened Refusal). Opens r tally tally (open_trial M tally lost odds)) (sym p.1)
    (refuses M tally lost odds p.0 (stops p.0 (fault (open_bars M tally lost odds)) (ap Err p.2 ∙ c.in_err-check.ensures)))

pub open_one-requires : goal.open_one-requires
open_one-requires c =
    let bars = open_bars (meaning_of c.args.table.now) c.args.tally.now.counts c.args.report.lost.now c.args.report.odd.now in
    let clear = fault_clear bars (sym (passes (fault bars) _ c.in_ok-check.ensures)) in
    leb-false 1000000 c.args.tally.now.counts.opened clear.1.1.1.0

pub returns-clause-does : goal.returns-clause-does
returns-clause-does c =
    let M = meaning_of c.args.table.now in
    let tally = c.args.tally.now.counts in
    let lost = c.args.report.lost.now in
    let odds = c.args.report.odd.now in
    let fine = passes (fault (open_bars M tally lost odds)) _ c.in_ok-check.ensures in
    let begun = c.in_ok-trial.ensures in
    let same = numbered M tally lost odds c.in_ok-trial.trial.state c.next-number.result c.new-slip.result.number begun.begins c.next-number.ensures c.new-slip.ensures in
    opens M tally lost odds _ c.open_one.new.self.counts fine same c.open_one.ensures
