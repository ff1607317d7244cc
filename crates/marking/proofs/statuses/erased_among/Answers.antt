use Rattle.std.proofs.Common.{◌≡◌, ℕ, cond, Some, None, Option, refl, ◌∙◌, rules, tests}
use Rattle.std.specs.List.{find}
use Rattle.std.specs.Option.{option_map}
use Rattle.std.proofs.lemmas.Iterator.{YieldsList-from_slice}
use Rattle.std.proofs.lemmas.Iterator.Consumers.{YieldsList-from_copied}
use Rattle.std.proofs.lemmas.Iterator.Search.{find_from_yields_List}
use Rattle.std.proofs.lemmas.List.Recursion.{same_from_clauses}
use Rattle.sets.specs.Sets.{has}
use Rattle.upkeep.specs.Rows.{first_in}
use Rattle.upkeep.specs.Statuses.{erased_of}
use Rattle.marking.proofs.statuses.erased_among.Goals as goal

unmapped : (o : Option ℕ) → o ≡ option_map (λ x. x) o
unmapped None = refl
unmapped (Some x) = refl

pub returns : goal.returns
returns c =
    let m = erased_of c.args.status.now in
    let row = c.args.row.now in
    unmapped _ ∙ find_from_yields_List (has m) _ _ _ c.find.ensures.ran (YieldsList-from_copied (YieldsList-from_slice row cc)) (λ x b q k. search (rules, tests))
    ∙ same_from_clauses (find (has m)) (first_in m) (λ q r. cond (has m q) (Some q) r) refl (λ _ _. refl) (λ _ _. refl) row
