-- A trial that was opened, run and closed.
use Rattle.std.proofs.Common.{◌≡◌, ℕ, Bool, true, false, cond, not, eqb, ltb, List, [], ◌∷◌, length, replicate, Some, None, Ok, Err, Result, sym, refl, ap, ◌∙◌, subst, inl, inr}
use Rattle.terms.specs.declared.refusal.Refusal.{Refusal}
use Rattle.meaning.specs.Meaning.{Meaning, qubits}
use Rattle.rules.specs.declared.answers.Verdict.{Verdict}
use Rattle.rules.specs.Reports.{report}
use Rattle.rules.specs.Law.{TrueOf}
use Rattle.rules.proofs.Runs.{run_calls}
use Rattle.trial.specs.Closing.{TellsTruth}
use Rattle.rules.specs.States.{State}
use Rattle.rules.specs.Tallies.{Tally, Opened, open_trial, closings, outcome, verdict, counted, close_bars, close, copy_out}
use Rattle.rules.proofs.Bars.{passed}
use Rattle.upkeep.specs.Fault.{fault}
use Rattle.upkeep.proofs.Faults.{fault_none, fault_some}
use Rattle.trial.specs.Opening.{OpensAs, Opens}
use Rattle.decoding.specs.Running.{run_from, decode_bars, decoded_from, decoded, Decodes, TrueRun}
use Rattle.decoding.proofs.Decided.{one_opened}

-- a close with the trial's slip, on a tally that has one out, is accepted
pub closes : (s : State) (slip : ℕ) (t : Tally) → eqb slip s.number ≡ true → eqb t.opened (closings t) ≡ false → (close s slip t).answer ≡ Ok (verdict s)
closes s slip t shown out = ap (λ (r : Result Verdict Refusal × Tally). r.0) (passed (close_bars s slip t) t (Ok (verdict s), counted (outcome s) t) (ap not shown, (out, tt)))

module _ (M : Meaning) (t : Tally) (lost odds : List ℕ) (w : ℕ) (buffer : List ℕ) (fine : None ≡ fault (decode_bars M lost odds w buffer)) where
  -- the input is not refused
  goes_on : decoded M t lost odds w buffer ≡ decoded_from M w buffer (open_trial M t lost odds).0 (open_trial M t lost odds).1
  goes_on = fault_none (t, buffer) (decoded_from M w buffer (open_trial M t lost odds).0 (open_trial M t lost odds).1) (decode_bars M lost odds w buffer) fine

  -- an opening that failed decides the whole
  pub not_opened : (f : Refusal) (u : Tally) → Opens (Err f) t u (open_trial M t lost odds) → Decodes (Err f) t buffer u buffer (decoded M t lost odds w buffer)
  not_opened f u h = subst (Decodes (Err f) t buffer u buffer) (sym goes_on) (go (open_trial M t lost odds).0 (open_trial M t lost odds).1 h)
    where
      go : (told : Result Opened Refusal) (later : Tally) → OpensAs (Err f) t u told later → Decodes (Err f) t buffer u buffer (decoded_from M w buffer told later)
      go (Err g) later h = inr (λ i. (Err (h.0 i), (h.1 i, buffer)))
      go (Ok o) later h = inl (h.0, h.1, refl)

  -- and one that is closed is what the rule says
  pub is_decoded : (o : Opened) (u : Tally) → open_trial M t lost odds ≡ (Ok o, u) → (v : Verdict) (later : Tally) (after : List ℕ)
      → Ok v ≡ (close (run_from M w o) o.slip u).answer → later ≡ (close (run_from M w o) o.slip u).tally → after ≡ (copy_out M (run_from M w o) buffer).1
      → Decodes (Ok v) t buffer later after (decoded M t lost odds w buffer)
  is_decoded o u e v later after ev el ea =
      subst (Decodes (Ok v) t buffer later after)
      (sym (goes_on ∙ ap (λ (r : Result Opened Refusal × Tally). decoded_from M w buffer r.0 r.1) e))
      (λ i. (ev i, (el i, ea i)))

-- a refused input decides the whole too
pub not_taken : (M : Meaning) (t : Tally) (lost odds : List ℕ) (w : ℕ) (buffer : List ℕ) (f : Refusal) → Some f ≡ fault (decode_bars M lost odds w buffer) → Decodes (Err f) t buffer t buffer (decoded M t lost odds w buffer)
not_taken M t lost odds w buffer f e =
    let whole : Result Verdict Refusal × (Tally × List ℕ) = decoded_from M w buffer (open_trial M t lost odds).0 (open_trial M t lost odds).1 in
    inr (sym (fault_some (t, buffer) whole (decode_bars M lost odds w buffer) f e))

-- what a close tells after the run is true of the report
pub told_true : (M : Meaning) (t u : Tally) (lost odds : List ℕ) (w : ℕ) (o : Opened) (v : Verdict) → open_trial M t lost odds ≡ (Ok o, u) → TellsTruth M (run_from M w o) (Ok v) → TrueRun M t lost odds w (Ok v)
told_true M t u lost odds w o v e h p later f =
    let calls = run_calls M o.trial o.slip w (replicate (qubits M) 0) in
    subst (λ (x : Opened). TrueOf M (report M lost odds) (run_from M w x) v) (one_opened M t lost odds o p u later e f) (h t u lost odds o e calls.0 (sym calls.1))
