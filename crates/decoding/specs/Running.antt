-- A trial that is run.
use Rattle.std.specs.Prelude.{◌≡◌, ℕ, not, ◌||◌, ◌⊎◌, List, [], ◌∷◌, length, replicate, Ok, Err, Result, nat_lt}
use Rattle.terms.specs.declared.refusal.Refusal.{Refusal}
use Rattle.terms.specs.declared.refusal.Refusal.TheVariants.{NoMemory, QubitTooLarge, CheckTooLarge, NotRising, OutsideLimits}
use Rattle.meaning.specs.Meaning.{Meaning, qubits}
use Rattle.rules.specs.declared.answers.Verdict.{Verdict}
use Rattle.rules.specs.Reports.{report, some_past, rises}
use Rattle.rules.specs.States.{State}
use Rattle.rules.specs.Refusing.{Bar, bar, unless, too_short}
use Rattle.rules.specs.Tallies.{Tally, Opened, open_trial, close, copy_out}
use Rattle.rules.specs.Run.{run}
use Rattle.rules.specs.Law.{TrueOf}

-- the trial as a run with these switches leaves it
abbrev pub run_from : Meaning → ℕ → Opened → State
run_from M switches o = (run M o.trial o.slip switches (replicate (qubits M) 0)).1

-- a trial that was opened is run and closed, and the correction is copied out
abbrev pub decoded_from : Meaning → ℕ → List ℕ → Result Opened Refusal → Tally → Result Verdict Refusal × (Tally × List ℕ)
decoded_from M switches buffer (Err f) t = (Err f, (t, buffer))
decoded_from M switches buffer (Ok o) t =
    let s : State = run_from M switches o in
    ((close s o.slip t).answer, ((close s o.slip t).tally, (copy_out M s buffer).1))

-- what is asked of the input, the smaller number first: the report, the buffer and the switches
abbrev pub decode_bars : Meaning → List ℕ → List ℕ → ℕ → List ℕ → List Bar
decode_bars M lost odds switches buffer =
    bar (some_past (qubits M) lost) QubitTooLarge
    ∷ bar (some_past (length M.checks) odds) CheckTooLarge
    ∷ too_short M buffer
    ∷ bar (not (rises lost) || not (rises odds)) NotRising
    ∷ bar (nat_lt 15 switches) OutsideLimits
    ∷ []

-- then the trial is opened
abbrev pub decoded : Meaning → Tally → List ℕ → List ℕ → ℕ → List ℕ → Result Verdict Refusal × (Tally × List ℕ)
decoded M t lost odds switches buffer =
    let r : Result Opened Refusal × Tally = open_trial M t lost odds in
    unless (decode_bars M lost odds switches buffer) (t, buffer) (decoded_from M switches buffer r.0 r.1)

-- the answer, the later tally and the later buffer are those of the rule; or memory was wanting, for the table, the scratch bytes or the trial, and both stay as they were
abbrev pub Decodes : Result Verdict Refusal → Tally → List ℕ → Tally → List ℕ → Result Verdict Refusal × (Tally × List ℕ) → Type 0
Decodes (Ok v) t buffer u later rule = (Ok v, (u, later)) ≡ rule
Decodes (Err e) t buffer u later rule = ((e ≡ NoMemory) × (u ≡ t) × (later ≡ buffer)) ⊎ ((Err e, (u, later)) ≡ rule)

-- a verdict is true of the report; the correction is what the run flips
abbrev pub TrueRun : Meaning → Tally → List ℕ → List ℕ → ℕ → Result Verdict Refusal → Type 0
TrueRun M t lost odds switches (Ok v) = (o : Opened) (later : Tally) → open_trial M t lost odds ≡ (Ok o, later) → TrueOf M (report M lost odds) (run_from M switches o) v
TrueRun M t lost odds switches (Err e) = Unit {0}
