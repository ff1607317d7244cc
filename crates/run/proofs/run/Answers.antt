use Rattle.std.proofs.Common.{◌≡◌, Ok, sym, ap, ◌∙◌, rules}
use Rattle.meaning.specs.Meaning.{qubits}
use Rattle.rules.specs.States.{State}
use Rattle.table.specs.Stands.{table_sound}
use Rattle.running.proofs.Numbered.{turns_number}
use Rattle.run.proofs.Looked.{code}
use Rattle.run.proofs.Promised.{counts_as_calls, runs_to_end, finishes}
use Rattle.run.proofs.run.Goals as goal

pub settle_shelf-requires : goal.settle_shelf-requires
settle_shelf-requires c =
    let t = c.args.trial.now in
    let own : c.args.slip.now.number ≡ t.state.number = search rules in
    record { shown = own ∙ sym (ap (λ (x : State). x.number) c.take_turns.ensures.does ∙ turns_number (code t) c.in_ok-stages.stages.sum c.args.scratch.now (qubits (code t)) t.state) }

pub returns-clause-does : goal.returns-clause-does
returns-clause-does c = search rules

pub returns-clause-calls : goal.returns-clause-calls
returns-clause-calls c =
    let t = c.args.trial.now in
    counts_as_calls (code t) (table_sound t.table) t.state c.args.slip.now.number c.args.switches c.args.scratch.now (Ok c.ending.result) c.settle_shelf.new.trial.state c.take_turns.new.scratch (returns-clause-does c)

pub returns-clause-ends : goal.returns-clause-ends
returns-clause-ends c =
    let t = c.args.trial.now in
    runs_to_end (code t) (table_sound t.table) t.state c.args.slip.now.number c.args.switches c.args.scratch.now (Ok c.ending.result) c.settle_shelf.new.trial.state c.take_turns.new.scratch (returns-clause-does c)

pub returns-clause-full : goal.returns-clause-full
returns-clause-full c =
    let t = c.args.trial.now in
    finishes (code t) (table_sound t.table) t.state c.args.slip.now.number c.args.switches c.args.scratch.now (Ok c.ending.result) c.settle_shelf.new.trial.state c.take_turns.new.scratch (returns-clause-does c)
