use Rattle.std.proofs.Common.{false, refl, rules}
use Rattle.std.proofs.lemmas.List.Recursion.{or_is}
use Rattle.sets.specs.Sets.{any}
use Rattle.marking.proofs.masks.any.Goals as goal

pub returns : goal.returns
returns c = or_is any (λ m. m) refl (λ _ _. refl) c.args.marks.now false _ (search rules) (search rules)
