use Rattle.std.proofs.Common.{length, replicate, sym, ap, ◌∙◌}
use lib.ListN.{length-replicate}
use Rattle.meaning.specs.Meaning.{qubits}
use Rattle.rules.specs.declared.answers.Status.TheVariants.{Done}
use Rattle.table.specs.OfTable.{meaning_of}
use Rattle.upkeep.specs.Counts.{counts_in}
use Rattle.upkeep.specs.Statuses.{erased_of}
use Rattle.upkeep.proofs.Counts.{counts_none}
use Rattle.upkeep.proofs.Opened.{erased_none}
use Rattle.trial.proofs.trial.erasing.Erasures.none.Goals as goal

pub invariant_of-result : goal.invariant_of-result
invariant_of-result c =
    let M = meaning_of c.args.table.now in
    let n = qubits M in
    let status = c.in_ok-status.ensures.items_if_clones_equal (λ y e. e) ∙ ap (λ k. replicate k Done) c.qubits.ensures in
    let held = c.in_ok-held.ensures.items_if_clones_equal (λ y e. e) ∙ ap (λ k. replicate k 0) c.checks.ensures in
    record {
      fit = ap length status ∙ length-replicate n Done;
      counts = held ∙ sym (ap (λ l. counts_in M.checks (erased_of l)) status ∙ ap (counts_in M.checks) (erased_none n) ∙ counts_none M.checks n);
    }
