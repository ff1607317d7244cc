use Rattle.std.proofs.Common.{◌≡◌, ℕ, min, Some, None, Option, refl, ap, ◌∙◌}
use Rattle.std.specs.List.{reduce}
use Rattle.std.specs.Option.{option_map}
use Rattle.std.proofs.lemmas.Iterator.{YieldsList-from_slice}
use Rattle.std.proofs.lemmas.Iterator.Consumers.{YieldsList-from_copied, min_from_yields_List}
use Rattle.terms.specs.declared.row.Row.TheVariants.{Generator}
use Rattle.sets.specs.Sets.{row}
use Rattle.table.specs.OfTable.{told_of}
use Rattle.trial.specs.Standing.{Standing}
use Rattle.trial.proofs.Done.{code}
use Rattle.trial.proofs.Searched.{told_names, least_lowest}
use Rattle.trial.proofs.trial.Trial.lowest_of.Goals as goal

unmapped : (o : Option ℕ) → o ≡ option_map (λ x. x) o
unmapped None = refl
unmapped (Some x) = refl

pub returns : goal.returns
returns c =
    let t = c.args.self.now in
    let g = c.args.generator in
    let told = c.row-row.ensures ∙ ap (λ (x : Standing). told_of x.table (Generator g)) c.self.view_is in
    unmapped _ ∙ min_from_yields_List _ c.min.result c.min.ensures.ran (YieldsList-from_copied (YieldsList-from_slice c.row-row.result.now cc))
    ∙ ap (reduce min) told ∙ least_lowest (row (code t).generators g) (told_of t.table (Generator g)) (told_names t g)
