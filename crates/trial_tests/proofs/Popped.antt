-- Slips of which the last is taken off.
use Rattle.std.proofs.Common.{◌≡◌, ℕ, ◌+◌, ◌<◌, ◌≤◌, ◌⊎◌, List, [], ◌∷◌, ◌++◌, length, get_or, length-append, Some, None, Option, sym, ap, ◌∙◌, arith, inl, inr}
use Rattle.std.proofs.Math.Seq.{get_or-append_seam}
use Rattle.std.proofs.lemmas.List.{get_or_append_left, get_or_past, get_or-map}
use Rattle.std.proofs.lemmas.List.Sums.{sum_by-append}
use Rattle.std.proofs.lemmas.Bool.{cases_lt}
use Rattle.trial.specs.declared.slip.Slip.{Slip}
use Rattle.trial.specs.declared.tally.Tally.{Tally}
use Rattle.trial.specs.declared.trial.Trial.{Trial}
use Rattle.trial_tests.specs.Slips.{outs, held_by, held, trial_numbers, Own}

-- those that are left have their numbers still
pub own_rest : (slips rest : List (Option Slip)) (last : Option Slip) (n : List ℕ) → slips ≡ rest ++ (last ∷ []) → Own slips n → Own rest n
own_rest slips rest last n e own k s h = go (cases_lt k (length rest))
  where
    go : (k < length rest) ⊎ (length rest ≤ k) → s.number ≡ get_or n k 0
    go (inl low) = own k s (ap (λ l. get_or l k None) e ∙ get_or_append_left rest (last ∷ []) None k low ∙ h)
    go (inr past) = let z : None ≡ Some s = sym (get_or_past rest k None past) ∙ h in cc

-- and the one that was taken off has that of its trial
pub own_last : (trials : List Trial) (slips rest : List (Option Slip)) (s : Slip) (t : Trial) (k : ℕ) → slips ≡ rest ++ (Some s ∷ []) → k ≡ length rest → k < length trials
    → t ≡ get_or trials k t → Own slips (trial_numbers trials) → s.number ≡ t.state.number
own_last trials slips rest s t k e is low at own =
    own k s (ap (λ l. get_or l k None) e ∙ ap (λ j. get_or (rest ++ (Some s ∷ [])) j None) is ∙ get_or-append_seam rest (Some s) [] None)
    ∙ get_or-map (λ (x : Trial). x.state.number) trials k t 0 low ∙ ap (λ (x : Trial). x.state.number) (sym at)

-- of the slips that are left each has its trial, and the tallies count them out
pub record Left (trials : List Trial) (slips : List (Option Slip)) (tallies : List Tally) : Type 0 where
  pub as_many : length slips ≤ length trials
  pub own : Own slips (trial_numbers trials)
  pub count : outs tallies ≡ held slips

-- so it is after the last was taken off, where the tallies count it no more
pub left_rest : (trials : List Trial) (slips rest : List (Option Slip)) (last : Option Slip) (before after : List Tally)
    → slips ≡ rest ++ (last ∷ []) → outs after + held_by last ≡ outs before → Left trials slips before → Left trials rest after
left_rest trials slips rest last before after e spent l =
    let n : held slips ≡ held rest + (0 + held_by last) = ap held e ∙ sum_by-append held_by rest (last ∷ []) in
    record {
      as_many = omega (arith, l.as_many, ap length e ∙ length-append rest (last ∷ []));
      own = own_rest slips rest last (trial_numbers trials) e l.own;
      count = omega (arith, n, l.count, spent);
    }
