use Rattle.std.proofs.Common.{ap, ◌∙◌}
use Rattle.table.specs.OfTable.{meaning_of}
use Rattle.trial.specs.declared.trial.Trial.{Trial}
use Rattle.trial_tests.proofs.Counted.{settle_number, own_after}
use Rattle.trial_tests.proofs.trials.Trials.settle.Goals as goal

pub invariant_of-self-2-clause-own : goal.invariant_of-self-2-clause-own
invariant_of-self-2-clause-own c =
    let b = c.args.self.now in
    let t = c.in-Some.trial.now in
    let same = settle_number (meaning_of t.table) t c.settle.new.self c.in-Some-Some.slip.number c.settle.result c.settle.ensures.does in
    own_after b.slips.items b.trials.items c.place-place.result c.settle.new.self t (same ∙ ap (λ (x : Trial). x.state.number) c.in-Some.ensures.value) b.own
