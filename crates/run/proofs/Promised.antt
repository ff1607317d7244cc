-- What a run promises, from what is proved of its rule.
use Rattle.std.proofs.Common.{◌≡◌, ◌≢◌, ℕ, ◌≤◌, Bool, true, false, cond, ◌⊎◌, ◌||◌, List, Ok, Err, Result, sym, refl, ap, ap₂, ◌∙◌, subst, inl, inr, arith}
use Rattle.terms.specs.declared.refusal.Refusal.{Refusal}
use Rattle.sets.specs.Sets.{any, size}
use Rattle.meaning.specs.Meaning.{Meaning, Sound}
use Rattle.rules.specs.declared.answers.Ending.{Ending}
use Rattle.rules.specs.declared.answers.Outcome.{Outcome}
use Rattle.rules.specs.declared.answers.Outcome.TheVariants.{Solved, Nothing, Unfinished}
use Rattle.rules.specs.States.{State}
use Rattle.rules.specs.Tallies.{outcome}
use Rattle.rules.specs.Run.{run}
use Rattle.rules.proofs.Turns.{run_ends}
use Rattle.rules.proofs.Full.{full_run}
use Rattle.run.proofs.Made.{run_is_made}
use Rattle.run.specs.Promises.{OfReports, CountsAsCalls, AtEnd, RunsToEnd, Finishes}

differ : (o : Outcome) → (o ≡ Nothing) ⊎ (o ≡ Solved) → o ≢ Unfinished
differ o (inl h) e = let x : ◌≡◌ {A = Outcome} Nothing Unfinished = sym h ∙ e in let z : ◌≡◌ {A = ℕ} 0 1 = cc in absurd (omega arith)
differ o (inr h) e = let x : ◌≡◌ {A = Outcome} Solved Unfinished = sym h ∙ e in let z : ◌≡◌ {A = ℕ} 0 1 = cc in absurd (omega arith)

finished : (t : State) → (t.void ≡ true) ⊎ ((any t.erased ≡ false) × (any t.shelved ≡ false)) → (outcome t ≡ Nothing) ⊎ (outcome t ≡ Solved)
finished t (inl v) = inl (ap (λ b. cond b Nothing (cond (any t.erased || any t.shelved) Unfinished (cond (any t.odds) Nothing Solved))) v)
finished t (inr x) = go t.void (any t.odds) (outcome t) (ap₂ (λ a b. cond t.void Nothing (cond (a || b) Unfinished (cond (any t.odds) Nothing Solved))) x.0 x.1)
  where
    go : (v d : Bool) (o : Outcome) → o ≡ cond v Nothing (cond d Nothing Solved) → (o ≡ Nothing) ⊎ (o ≡ Solved)
    go true d o e = inl e
    go false true o e = inl e
    go false false o e = inr e

module _ (M : Meaning) (sound : Sound M) (s : State) (slip switches : ℕ) (scratch : List ℕ) (r : Result Ending Refusal) (t : State) (y : List ℕ) (does : (r, t, y) ≡ run M s slip switches scratch) where
  abbrev state_is : t ≡ (run M s slip switches scratch).1
  state_is = ap (λ (x : Result Ending Refusal × State × List ℕ). x.1) does

  abbrev answer_is : r ≡ (run M s slip switches scratch).0
  answer_is = ap (λ (x : Result Ending Refusal × State × List ℕ). x.0) does

  pub counts_as_calls : CountsAsCalls M s switches scratch r t
  counts_as_calls =
      subst (λ (u : State). CountsAsCalls M s switches scratch r u) (sym state_is)
      (subst (λ (a : Result Ending Refusal). CountsAsCalls M s switches scratch a (run M s slip switches scratch).1) (sym answer_is) (run_is_made M s slip switches scratch))

  module _ (e : Ending) (ok : r ≡ Ok e) where
    pub at_end : OfReports M s (λ R. AtEnd M switches scratch t)
    at_end before later lost odds o opens calls led =
        subst (λ (x : State). AtEnd M switches scratch x) (sym state_is)
        (subst (λ (u : State). (run M u slip switches scratch).0 ≡ Ok e → AtEnd M switches scratch (run M u slip switches scratch).1) led (run_ends M sound before later lost odds o opens calls slip switches scratch e) (sym answer_is ∙ ok))

    pub not_unfinished : switches ≡ 15 → OfReports M s (λ R. size R.lost ≤ 256 → outcome t ≢ Unfinished)
    not_unfinished all before later lost odds o opens calls led few =
        let full = full_run M sound before later lost odds o opens calls few slip scratch e in
        let here = subst (λ (u : State). (run M u slip 15 scratch).0 ≡ Ok e → ((run M u slip 15 scratch).1.void ≡ true) ⊎ ((any (run M u slip 15 scratch).1.erased ≡ false) × (any (run M u slip 15 scratch).1.shelved ≡ false))) led full in
        let at = subst (λ w. (run M s slip w scratch).0 ≡ Ok e → ((run M s slip w scratch).1.void ≡ true) ⊎ ((any (run M s slip w scratch).1.erased ≡ false) × (any (run M s slip w scratch).1.shelved ≡ false))) (sym all) here in
        let end = at (sym answer_is ∙ ok) in
        differ (outcome t) (finished t (subst (λ (u : State). (u.void ≡ true) ⊎ ((any u.erased ≡ false) × (any u.shelved ≡ false))) (sym state_is) end))

pub runs_to_end : (M : Meaning) → Sound M → (s : State) (slip switches : ℕ) (scratch : List ℕ) (r : Result Ending Refusal) (t : State) (y : List ℕ) → (r, t, y) ≡ run M s slip switches scratch → RunsToEnd M s switches scratch r t
runs_to_end M sound s slip switches scratch (Err f) t y does = tt
runs_to_end M sound s slip switches scratch (Ok e) t y does = at_end M sound s slip switches scratch (Ok e) t y does e refl

pub finishes : (M : Meaning) → Sound M → (s : State) (slip switches : ℕ) (scratch : List ℕ) (r : Result Ending Refusal) (t : State) (y : List ℕ) → (r, t, y) ≡ run M s slip switches scratch → Finishes M s switches r t
finishes M sound s slip switches scratch (Err f) t y does = tt
finishes M sound s slip switches scratch (Ok e) t y does = not_unfinished M sound s slip switches scratch (Ok e) t y does e refl
