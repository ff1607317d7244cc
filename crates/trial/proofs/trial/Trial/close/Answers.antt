use Rattle.std.proofs.Common.{◌≡◌, None, Ok, sym, ap, subst}
use Rattle.rules.specs.Tallies.{Closed, close}
use Rattle.table.specs.Stands.{table_sound}
use Rattle.trial.specs.Standing.{Standing}
use Rattle.trial.proofs.Closes.{closes, tells_truth}
use Rattle.trial.proofs.Done.{code}
use Rattle.trial.proofs.trial.Trial.close.Goals as goal

pub returns-clause-does : goal.returns-clause-does
returns-clause-does c =
    let s = c.args.self.now.state in
    subst (λ (x : Standing). ◌≡◌ {A = Closed} (record { answer = Ok (record { outcome = c.outcome-outcome.result; peeled = x.state.peeled; pruned = x.state.pruned; chosen = x.state.chosen }); tally = c.close_one.new.self.counts; slip = None }) (close s c.args.slip.number c.args.tally.now.counts)) (sym c.self.view_is)
    (closes s c.args.slip.number c.args.tally.now.counts (sym c.if-not-is_shown.ensures) (sym c.if-has_none_out.ensures) c.outcome-outcome.result c.close_one.new.self.counts c.outcome-outcome.ensures c.close_one.ensures)

pub returns-clause-truth : goal.returns-clause-truth
returns-clause-truth c =
    let t = c.args.self.now in
    tells_truth (code t) (table_sound t.table) t.state c.args.slip.number c.args.tally.now.counts _ (ap (λ (x : Closed). x.answer) (returns-clause-does c))
