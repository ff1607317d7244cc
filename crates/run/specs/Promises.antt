-- What a run promises of a trial that was opened, and on which any calls were made.
use Rattle.std.specs.Prelude.{◌≡◌, ◌≢◌, ℕ, zero, suc, ◌≤◌, true, false, ◌⊎◌, List, [], ◌∷◌, ◌++◌, length, replicate, Ok, Err, Result}
use Rattle.std.proofs.Math.Option.{none, some}
use Rattle.terms.specs.declared.refusal.Refusal.{Refusal}
use Rattle.sets.specs.Sets.{any, size}
use Rattle.meaning.specs.Meaning.{Meaning, qubits}
use Rattle.rules.specs.declared.answers.Ending.{Ending}
use Rattle.rules.specs.declared.answers.Outcome.TheVariants.{Unfinished}
use Rattle.rules.specs.Reports.{Report, report}
use Rattle.rules.specs.States.{State}
use Rattle.rules.specs.Tallies.{Tally, Opened, open_trial, outcome}
use Rattle.rules.specs.CallLists.{Call, Settle, call, after}
use Rattle.rules.specs.Run.{next, turns}

-- P holds of each report that the trial s may have been opened on: an opening, and then some list of calls, refused or not, led to s
abbrev pub OfReports : Meaning → State → (Report → Type 0) → Type 0
OfReports M s P = (before later : Tally) (lost odds : List ℕ) (o : Opened) → open_trial M before lost odds ≡ (Ok o, later)
    → (calls : List Call) → after M o.trial calls ≡ s → P (report M lost odds)

-- the calls that a run makes: in each turn the first that can be done, and then a settle for each entry of the shelf
abbrev pub turns_made : Meaning → ℕ → List ℕ → ℕ → State → List Call
turns_made M switches scratch zero s = []
turns_made M switches scratch (suc n) s =
    elim s.void [ true ↦ [] | false ↦ elim (next M switches scratch s) [ none ↦ [] | some c ↦ c ∷ turns_made M switches scratch n (call M s c) ] ]

abbrev pub made : Meaning → ℕ → List ℕ → State → List Call
made M switches scratch s =
    let t : State = turns M switches scratch (qubits M) s in
    turns_made M switches scratch (qubits M) s ++ replicate (length t.shelf) (Settle s.number)

-- an accepted run from s to t counts as the calls that it makes; a refused one makes none
abbrev pub CountsAsCalls : Meaning → State → ℕ → List ℕ → Result Ending Refusal → State → Type 0
CountsAsCalls M s switches scratch (Err r) t = t ≡ s
CountsAsCalls M s switches scratch (Ok e) t = t ≡ after M s (made M switches scratch s)

-- the trial t is void, or nothing of what the switches name can be done; and with nothing erased the shelf is empty
abbrev pub AtEnd : Meaning → ℕ → List ℕ → State → Type 0
AtEnd M switches scratch t = (t.void ≡ true) ⊎ ((next M switches scratch t ≡ none) × (any t.erased ≡ false → t.shelf ≡ []))

-- an accepted run from s to t goes on to its end
abbrev pub RunsToEnd : Meaning → State → ℕ → List ℕ → Result Ending Refusal → State → Type 0
RunsToEnd M s switches scratch (Err r) t = Unit {0}
RunsToEnd M s switches scratch (Ok e) t = OfReports M s (λ R. AtEnd M switches scratch t)

-- an accepted run with all stages on, where at most 256 qubits were lost, leaves a trial that closes as something else than "unfinished"
abbrev pub Finishes : Meaning → State → ℕ → Result Ending Refusal → State → Type 0
Finishes M s switches (Err r) t = Unit {0}
Finishes M s switches (Ok e) t = switches ≡ 15 → OfReports M s (λ R. size R.lost ≤ 256 → outcome t ≢ Unfinished)
