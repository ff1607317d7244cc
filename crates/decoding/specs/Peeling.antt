-- A trial that only peels.
use Rattle.std.specs.Prelude.{◌≡◌, ℕ, ◌⊎◌, List, map, Ok, Err, Result}
use Rattle.terms.specs.declared.refusal.Refusal.{Refusal}
use Rattle.terms.specs.declared.refusal.Refusal.TheVariants.{NoMemory}
use Rattle.meaning.specs.Meaning.{Meaning}
use Rattle.rules.specs.declared.answers.Verdict.{Verdict}
use Rattle.rules.specs.Reports.{report}
use Rattle.rules.specs.States.{State}
use Rattle.rules.specs.Tallies.{Tally, Opened, open_trial, close}
use Rattle.rules.specs.CallLists.{Call, Peel, after}
use Rattle.rules.specs.Law.{TrueOf}

-- a peel of each listed check, with the slip of this number
abbrev pub peels : ℕ → List ℕ → List Call
peels slip checks = map (λ c. Peel slip c) checks

-- a trial is opened, the checks are peeled, refused or not, and it is closed
abbrev pub decided_from : Meaning → List ℕ → Result Opened Refusal → Tally → Result Verdict Refusal × Tally
decided_from M checks (Err f) t = (Err f, t)
decided_from M checks (Ok o) t =
    let s : State = after M o.trial (peels o.slip checks) in
    ((close s o.slip t).answer, (close s o.slip t).tally)

abbrev pub decided : Meaning → Tally → List ℕ → List ℕ → List ℕ → Result Verdict Refusal × Tally
decided M t lost odds checks = let r : Result Opened Refusal × Tally = open_trial M t lost odds in decided_from M checks r.0 r.1

-- the answer and the later tally are those of the rule, `told` and `later`; or memory was wanting, for the table or for the trial, and the tally stays as it was
abbrev pub DecidesAs : Result Verdict Refusal → Tally → Tally → Result Verdict Refusal → Tally → Type 0
DecidesAs (Ok v) before after told later = (Ok v ≡ told) × (after ≡ later)
DecidesAs (Err e) before after told later = ((e ≡ NoMemory) × (after ≡ before)) ⊎ ((Err e ≡ told) × (after ≡ later))

abbrev pub Decides : Result Verdict Refusal → Tally → Tally → Result Verdict Refusal × Tally → Type 0
Decides r before after rule = DecidesAs r before after rule.0 rule.1

-- a verdict is true of the report; the correction is what the peels flip
abbrev pub TrueAfter : Meaning → Tally → List ℕ → List ℕ → List ℕ → Result Verdict Refusal → Type 0
TrueAfter M t lost odds checks (Ok v) = (o : Opened) (later : Tally) → open_trial M t lost odds ≡ (Ok o, later) → TrueOf M (report M lost odds) (after M o.trial (peels o.slip checks)) v
TrueAfter M t lost odds checks (Err e) = Unit {0}
