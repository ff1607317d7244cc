use Rattle.std.proofs.Common.{sym, ap, ◌∙◌}
use Rattle.std.proofs.lemmas.List.{length-set}
use Rattle.table.specs.OfTable.{meaning_of}
use Rattle.trial.specs.declared.trial.Trial.{Trial}
use Rattle.trial_tests.proofs.Counted.{run_kept, own_after}
use Rattle.trial_tests.proofs.trials.Trials.run.Goals as goal

pub invariant_of-self-in-Break-1 : goal.invariant_of-self-in-Break-1
invariant_of-self-in-Break-1 c =
    let b = c.args.self.now in
    let t = c.in-Some.trial.now in
    record {
      as_many = b.as_many ∙ sym (length-set b.trials.items c.place-place.result t);
      own = own_after b.slips.items b.trials.items c.place-place.result t t (ap (λ (x : Trial). x.state.number) c.in-Some.ensures.value) b.own;
    }

pub invariant_of-self-2-clause-own : goal.invariant_of-self-2-clause-own
invariant_of-self-2-clause-own c =
    let b = c.args.self.now in
    let t = c.in-Some.trial.now in
    let same = run_kept (meaning_of t.table) t c.run.new.trial c.in-Some-Some.slip.number c.short-switches.result c.as_mut_slice.result.now c.run.new.scratch c.run.result c.run.ensures.does in
    own_after b.slips.items b.trials.items c.place-place.result c.run.new.trial t (same ∙ ap (λ (x : Trial). x.state.number) c.in-Some.ensures.value) b.own
