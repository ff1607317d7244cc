-- The law about calls: whatever is called on a trial, a close tells the truth.
use Rattle.std.specs.Prelude.{◌≡◌, ℕ, ◌+◌, ◌^◌, Bool, List, Ok}
use Rattle.sets.specs.Lists.{Exactly}
use Rattle.sets.specs.Sets.{plus}
use Rattle.meaning.specs.Meaning.{Meaning, Sound}
use Rattle.rules.specs.declared.answers.Outcome.{Outcome}
use Rattle.rules.specs.declared.answers.Outcome.TheVariants.{Solved, Nothing, Unfinished}
use Rattle.rules.specs.declared.answers.Verdict.{Verdict}
use Rattle.rules.specs.Reports.{Report, report, For, Fits, product, Named}
use Rattle.rules.specs.States.{State, opening}
use Rattle.rules.specs.Tallies.{Tally, Opened, open_trial, close}
use Rattle.rules.specs.CallLists.{Call, after, ClosedIn}
use Rattle.rules.specs.Moves.{Moves}

-- "solved" is right with the flipped qubits as correction: it fits; exactly 2 ^ (pruned + chosen) errors fit; and with nothing
-- chosen every error that fits differs from it by a product of generators
pub record Right (M : Meaning) (R : Report) (correction : List Bool) (pruned chosen : ℕ) : Type 0 where
  pub fits : Fits M R correction
  pub count : Exactly (2 ^ (pruned + chosen)) (Fits M R)
  pub product : chosen ≡ 0 → (e : List Bool) → Fits M R e → (l : List ℕ) × Named M l × (plus e correction ≡ product M l)

-- what the outcome of a close promises of the trial s; `pruned` and `chosen` are the counts that the close tells
abbrev pub Promised : Meaning → Report → State → Outcome → ℕ → ℕ → Type 0
Promised M R s Nothing pruned chosen = (e : List Bool) → ¬ Fits M R e
Promised M R s Unfinished pruned chosen = Unit {0}
Promised M R s Solved pruned chosen = Right M R s.flipped pruned chosen

-- the answer v to an accepted close of the trial s keeps its promise
abbrev pub TrueOf : Meaning → Report → State → Verdict → Type 0
TrueOf M R s v = Promised M R s v.outcome v.pruned v.chosen

-- For any sound code, any report on it, as an accepted opening takes it, and any list of calls with any arguments: each close in the list
-- that is accepted tells the truth
abbrev pub Law : Type 0
Law = (M : Meaning) → Sound M → (before later : Tally) (lost odds : List ℕ) (o : Opened) → open_trial M before lost odds ≡ (Ok o, later)
    → (calls : List Call) (s : State) (v : Verdict) → ClosedIn M s v o.trial calls → TrueOf M (report M lost odds) s v

-- P holds of each trial on a sound code, as an accepted opening and then any list of calls leave it, with the report that it was opened on
abbrev pub Always : (Meaning → Report → State → Type 0) → Type 0
Always P = (M : Meaning) → Sound M → (before later : Tally) (lost odds : List ℕ) (o : Opened) → open_trial M before lost odds ≡ (Ok o, later)
    → (calls : List Call) → P M (report M lost odds) (after M o.trial calls)

-- each accepted close of the trial s, with whatever slip and tally, tells the truth
abbrev pub Truthful : Meaning → Report → State → Type 0
Truthful M R s = (slip : ℕ) (tally : Tally) (v : Verdict) → (close s slip tally).answer ≡ Ok v → TrueOf M R s v

-- the law of a close that follows a list of calls
abbrev pub LawAfter : Type 0
LawAfter = Always Truthful

-- the same where solve, sweep and settle may flip any solution of their system
abbrev pub LiberalLaw : Type 0
LiberalLaw = (M : Meaning) → Sound M → (R : Report) → For M R → (number : ℕ) (s : State) → Moves M s (opening M R number) → Truthful M R s
