use Rattle.std.proofs.Common.{◌≡◌, Bool, true, false, ◌||◌, List, ◌∷◌, refl, rules}
use Rattle.std.proofs.lemmas.List.Recursion.{or_is}
use Rattle.sets.specs.Sets.{any}
use Rattle.rules.specs.declared.answers.Status.{Status}
use Rattle.rules.specs.declared.answers.Status.TheVariants.{Erased, Shelved, Done}
use Rattle.upkeep.specs.Statuses.{is_erased, is_shelved, erased_of, shelved_of}
use Rattle.marking.proofs.statuses.some_left.Goals as goal

abbrev left : List Status → Bool
left l = any (erased_of l) || any (shelved_of l)

or_true : (b : Bool) → (b || true) ≡ true
or_true true = refl
or_true false = refl

left_more : (s : Status) (l : List Status) → left (s ∷ l) ≡ ((is_erased s || is_shelved s) || left l)
left_more Erased l = refl
left_more Shelved l = or_true (any (erased_of l))
left_more Done l = refl

pub returns : goal.returns
returns c = or_is left (λ s. is_erased s || is_shelved s) refl left_more c.args.status.now Erased _ (search rules) (search rules)
