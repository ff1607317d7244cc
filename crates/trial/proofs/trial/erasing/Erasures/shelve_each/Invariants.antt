use Rattle.std.proofs.Common.{◌≡◌, drop, vec_items}
use Rattle.rules.specs.declared.answers.Status.TheVariants.{Shelved, Done}
use Rattle.upkeep.specs.Changed.{changed}
use Rattle.trial.proofs.trial.erasing.Erasures.shelve_each.Given as goal

-- what is left to shelve leads to the same end, on the same table
abbrev pub invariant-loop-q : goal.invariant-loop-q
invariant-loop-q l =
    record {
      table : l.self.table.now ≡ l.fn.self.table.now;
      shelves : changed Done (λ _. Shelved) (drop l.q-index l.list) (vec_items l.self.status) ≡ changed Done (λ _. Shelved) l.list (vec_items l.fn.self.status);
    }
