use Rattle.std.proofs.Common.{ap, ◌∙◌}
use Rattle.table.specs.OfTable.{meaning_of}
use Rattle.trial.specs.declared.trial.Trial.{Trial}
use Rattle.trial_tests.proofs.Counted.{sweep_number, own_after}
use Rattle.trial_tests.proofs.trials.Trials.sweep.Goals as goal

pub invariant_of-self-2-clause-own : goal.invariant_of-self-2-clause-own
invariant_of-self-2-clause-own c =
    let b = c.args.self.now in
    let t = c.in-Some.trial.now in
    let same = sweep_number (meaning_of t.table) t c.sweep.new.self c.in-Some-Some.slip.number c.sweep.result c.sweep.ensures.does in
    own_after b.slips.items b.trials.items c.place-place.result c.sweep.new.self t (same ∙ ap (λ (x : Trial). x.state.number) c.in-Some.ensures.value) b.own
