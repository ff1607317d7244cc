-- What an accepted opening hands out.
use Rattle.std.proofs.Common.{◌≡◌, ℕ, ◌+◌, List, length, Ok, Err, Result, sym, ap, ◌∙◌, subst}
use Rattle.terms.specs.declared.refusal.Refusal.{Refusal}
use Rattle.sets.proofs.Marks.{length_marks}
use Rattle.meaning.specs.Meaning.{Meaning, Sound, qubits}
use Rattle.rules.specs.Reports.{Report, report, For}
use Rattle.rules.specs.States.{State, opening}
use Rattle.rules.specs.Tallies.{Tally, Opened, one_more, open_bars, open_trial}
use Rattle.rules.specs.CallLists.{Call, after}
use Rattle.rules.specs.Law.{Always}
use Rattle.rules.proofs.Bars.{passed, accepted}

pub report_for : (M : Meaning) (lost odds : List ℕ) → For M (report M lost odds)
report_for M lost odds = record { lost_range = length_marks (qubits M) lost; odds_range = length_marks (length M.checks) odds }

-- the trial that an accepted opening hands out
pub opened_is : (M : Meaning) (t u : Tally) (lost odds : List ℕ) (o : Opened) → open_trial M t lost odds ≡ (Ok o, u) → o.trial ≡ opening M (report M lost odds) (t.opened + 1)
opened_is M t u lost odds o e =
    let given : Result Opened Refusal × Tally = (Ok (record { trial = opening M (report M lost odds) (t.opened + 1); slip = t.opened + 1 }), one_more t) in
    let c = accepted (open_bars M t lost odds) t given o (ap (λ (r : Result Opened Refusal × Tally). r.0) e) in
    let same : ◌≡◌ {A = Result Opened Refusal × Tally} (Ok o, u) given = sym e ∙ passed (open_bars M t lost odds) t given c in
    ap (trial_of o.trial) (ap (λ (r : Result Opened Refusal × Tally). r.0) same)
  where
    trial_of : State → Result Opened Refusal → State
    trial_of s (Ok a) = a.trial
    trial_of s (Err r) = s

-- what holds after any calls on any opened trial holds always
pub always : (P : Meaning → Report → State → Type 0)
    → ((M : Meaning) → Sound M → (R : Report) → For M R → (number : ℕ) (calls : List Call) → P M R (after M (opening M R number) calls)) → Always P
always P h M sound t u lost odds o e calls =
    subst (λ (s : State). P M (report M lost odds) (after M s calls)) (sym (opened_is M t u lost odds o e))
    (h M sound (report M lost odds) (report_for M lost odds) (t.opened + 1) calls)
