-- What a close answers, as the rules have it; and that it is true.
use Rattle.std.specs.Prelude.{◌≡◌, ℕ, List, Some, None, Ok, Err, Result}
use Rattle.meaning.specs.Meaning.{Meaning}
use Rattle.rules.specs.declared.answers.Verdict.{Verdict}
use Rattle.rules.specs.Reports.{report}
use Rattle.rules.specs.States.{State}
use Rattle.rules.specs.Tallies as rules
use Rattle.rules.specs.CallLists.{Call, after}
use Rattle.rules.specs.Law.{TrueOf}
use Rattle.trial.specs.declared.tally.Tally.{Tally}
use Rattle.trial.specs.declared.trial.closing.NotClosed.{NotClosed}

abbrev pub closed_of : Result Verdict NotClosed → Tally → rules.Closed
closed_of (Ok v) t = record { answer = Ok v; tally = t.counts; slip = None }
closed_of (Err n) t = record { answer = Err n.refusal; tally = t.counts; slip = Some n.slip.number }

-- the code M; the trial s as it is closed: whatever opening on M, and whatever calls after it, refused or not, led to s,
-- the answer is true of the report that was opened on
abbrev pub TellsTruth : Meaning → State → Result Verdict NotClosed → Type 0
TellsTruth M s (Err n) = Unit {0}
TellsTruth M s (Ok v) = (before later : rules.Tally) (lost odds : List ℕ) (o : rules.Opened) → rules.open_trial M before lost odds ≡ (Ok o, later)
    → (calls : List Call) → after M o.trial calls ≡ s → TrueOf M (report M lost odds) s v
