use Rattle.std.proofs.Common.{refl, rules}
use Rattle.std.proofs.lemmas.List.Recursion.{and_is}
use Rattle.sets.specs.Sets.{has}
use Rattle.upkeep.specs.Rows.{all_in}
use Rattle.upkeep.specs.Statuses.{erased_of}
use Rattle.marking.proofs.statuses.all_erased.Goals as goal

pub returns : goal.returns
returns c = let m = erased_of c.args.status.now in and_is (all_in m) (has m) refl (λ _ _. refl) c.args.row.now 0 _ (search rules) (search rules)
