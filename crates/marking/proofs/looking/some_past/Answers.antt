use Rattle.std.proofs.Common.{not, ltb, refl, rules}
use Rattle.std.proofs.lemmas.List.Recursion.{or_is}
use Rattle.rules.specs.Reports.{some_past}
use Rattle.marking.proofs.looking.some_past.Goals as goal

pub returns : goal.returns
returns c = or_is (some_past c.args.limit) (λ k. not (ltb k c.args.limit)) refl (λ _ _. refl) c.args.list.now 0 _ (search rules) (search rules)
