-- Tables that still fit after one qubit is done.
use Rattle.std.proofs.Common.{◌≡◌, ℕ, ◌<◌, Bool, true, false, cond, List, map, length, get_or, set, sym, refl, ap, ◌∙◌}
use Rattle.std.proofs.lemmas.List.{map-set, get_or-map, set-get_or}
use Rattle.sets.specs.Sets.{has, elements}
use Rattle.rules.specs.declared.answers.Status.{Status}
use Rattle.rules.specs.declared.answers.Status.TheVariants.{Done}
use Rattle.upkeep.specs.Changed.{lowered}
use Rattle.upkeep.specs.Counts.{counts_in}
use Rattle.upkeep.specs.Statuses.{is_erased, erased_of}
use Rattle.upkeep.proofs.Counts.{counts_lowered}
use Rattle.upkeep.proofs.Holders.{holders_once, holders_named}

-- what may be changed keeps its length, if the change does
pub length_if : {X : Type 0} (f : Bool) (xs ys : List X) → length ys ≡ length xs → length (cond f ys xs) ≡ length xs
length_if true xs ys e = e
length_if false xs ys e = refl

-- st is the status that was read at q
module _ (status : List Status) (q : ℕ) (low : q < length status) (st : Status) (read : st ≡ get_or status q st) where
  pub erased_at : has (erased_of status) q ≡ is_erased st
  erased_at = get_or-map is_erased status q st false low ∙ ap is_erased (sym read)

  pub erased_done : erased_of (set status q Done) ≡ set (erased_of status) q false
  erased_done = map-set is_erased status q Done

  pub counts_done : (sets : List (List Bool)) (counts : List ℕ) → counts ≡ counts_in sets (erased_of status)
      → cond (is_erased st) (lowered (elements (map (λ s. has s q) sets)) counts) counts ≡ counts_in sets (erased_of (set status q Done))
  counts_done sets counts e = go (is_erased st) refl ∙ ap (counts_in sets) (sym erased_done)
    where
      go : (t : Bool) → is_erased st ≡ t → cond t (lowered (elements (map (λ s. has s q) sets)) counts) counts ≡ counts_in sets (set (erased_of status) q false)
      go true h = ap (lowered (elements (map (λ s. has s q) sets))) e ∙ counts_lowered sets (erased_of status) q (elements (map (λ s. has s q) sets)) (holders_once sets q) (λ k _. holders_named sets q k) (erased_at ∙ h)
      go false h = e ∙ ap (counts_in sets) (sym (ap (set (erased_of status) q) (sym (erased_at ∙ h)) ∙ set-get_or (erased_of status) q false))
