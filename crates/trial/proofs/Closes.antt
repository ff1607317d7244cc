-- A close that is accepted, and why it is true.
use Rattle.std.proofs.Common.{◌≡◌, ℕ, true, false, not, eqb, None, Ok, Result, sym, ap, ◌∙◌, subst}
use Rattle.terms.specs.declared.refusal.Refusal.{Refusal}
use Rattle.meaning.specs.Meaning.{Meaning, Sound}
use Rattle.rules.specs.declared.answers.Outcome.{Outcome}
use Rattle.rules.specs.declared.answers.Verdict.{Verdict}
use Rattle.rules.specs.Reports.{report}
use Rattle.rules.specs.States.{State}
use Rattle.rules.specs.Tallies.{Tally, Closed, closings, outcome, verdict, counted, close_bars, given_back, close}
use Rattle.rules.specs.Law.{TrueOf}
use Rattle.rules.proofs.Bars.{passed}
use Rattle.rules.proofs.Law.{law_after}
use Rattle.trial.specs.Closing.{TellsTruth}

module _ (s : State) (slip : ℕ) (t : Tally) (shown : eqb slip s.number ≡ true) (out : eqb t.opened (closings t) ≡ false) where
  pub closes : (o : Outcome) (u : Tally) → o ≡ outcome s → u ≡ counted o t
      → ◌≡◌ {A = Closed} (record { answer = Ok (record { outcome = o; peeled = s.peeled; pruned = s.pruned; chosen = s.chosen }); tally = u; slip = None }) (close s slip t)
  closes o u eo eu =
      let e = eu ∙ ap (λ x. counted x t) eo in
      let same : ◌≡◌ {A = Closed} _ _ = λ i. record { answer = Ok (record { outcome = eo i; peeled = s.peeled; pruned = s.pruned; chosen = s.chosen }); tally = e i; slip = None } in
      let u' : Result Verdict Refusal × Tally = (Ok (verdict s), counted (outcome s) t) in
      same ∙ ap (λ (r : Result Verdict Refusal × Tally). record { answer = r.0; tally = r.1; slip = given_back r.0 slip }) (sym (passed (close_bars s slip t) t u' (ap not shown, (out, tt))))

-- what an accepted close answers is true, whatever calls led to the trial
pub tells_truth : (M : Meaning) → Sound M → (s : State) (slip : ℕ) (t : Tally) (v : Verdict) → Ok v ≡ (close s slip t).answer → TellsTruth M s (Ok v)
tells_truth M sound s slip t v e before later lost odds o opened calls same =
    subst (λ (x : State). TrueOf M (report M lost odds) x v) same
    (law_after M sound before later lost odds o opened calls slip t v (ap (λ (x : State). (close x slip t).answer) same ∙ sym e))
