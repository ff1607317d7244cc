use Rattle.std.proofs.Common.{◌≡◌, drop, vec_items}
use Rattle.rules.specs.declared.answers.Status.TheVariants.{Erased, Done}
use Rattle.upkeep.specs.Changed.{changed}
use Rattle.trial.proofs.trial.erasing.Erasures.of.Given as goal

-- what is left to erase leads to the same end, on the same table
abbrev pub invariant-loop-q : goal.invariant-loop-q
invariant-loop-q l =
    record {
      table : l.erasures.table.now ≡ l.table;
      erases : changed Done (λ _. Erased) (drop l.q-index l.lost) (vec_items l.erasures.status) ≡ changed Done (λ _. Erased) l.lost (vec_items l.initial.erasures.status);
    }
