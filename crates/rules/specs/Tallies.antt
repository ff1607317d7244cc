-- Opening and closing a trial, slips and the tally; and copy-out.
-- An accepted opening hands out a slip; close takes it back. Trial and slip carry the same number, the tally's new count of openings.
use Rattle.std.specs.Prelude.{ℕ, ◌+◌, Bool, true, false, cond, not, ◌||◌, List, [], ◌∷◌, ◌++◌, map, length, drop, Some, None, Ok, Err, Option, Result, ◌==◌, nat_le}
use Rattle.terms.specs.declared.refusal.Refusal.{Refusal}
use Rattle.terms.specs.declared.refusal.Refusal.TheVariants.{QubitTooLarge, CheckTooLarge, NotRising, TallyFull, WrongSlip}
use Rattle.sets.specs.Sets.{any}
use Rattle.meaning.specs.Meaning.{Meaning, qubits}
use Rattle.rules.specs.declared.answers.Outcome.{Outcome}
use Rattle.rules.specs.declared.answers.Outcome.TheVariants.{Solved, Nothing, Unfinished}
use Rattle.rules.specs.declared.answers.Verdict.{Verdict}
use Rattle.rules.specs.Reports.{report, rises, some_past}
use Rattle.rules.specs.States.{State, opening}
use Rattle.rules.specs.Refusing.{Bar, bar, unless, wrong_slip, too_short}

-- how many trials were opened, and how many were closed as solved, with nothing that fits, and unfinished
pub record Tally : Type 0 where
  pub opened : ℕ
  pub solved : ℕ
  pub nothing : ℕ
  pub unfinished : ℕ

abbrev pub new_tally : Tally
new_tally = record { opened = 0; solved = 0; nothing = 0; unfinished = 0 }

-- how many trials were closed
abbrev pub closings : Tally → ℕ
closings t = t.solved + t.nothing + t.unfinished

-- Open: what an accepted opening hands out
pub record Opened : Type 0 where
  pub trial : State
  pub slip : ℕ

abbrev pub one_more : Tally → Tally
one_more t = record { opened = t.opened + 1; solved = t.solved; nothing = t.nothing; unfinished = t.unfinished }

-- both lists are searched for each fault in turn
abbrev pub open_bars : Meaning → Tally → List ℕ → List ℕ → List Bar
open_bars M t lost odds =
    bar (some_past (qubits M) lost) QubitTooLarge
    ∷ bar (some_past (length M.checks) odds) CheckTooLarge
    ∷ bar (not (rises lost) || not (rises odds)) NotRising
    ∷ bar (nat_le 1000000 t.opened) TallyFull
    ∷ []

abbrev pub open_trial : Meaning → Tally → List ℕ → List ℕ → Result Opened Refusal × Tally
open_trial M t lost odds =
    unless (open_bars M t lost odds) t
    (Ok (record { trial = opening M (report M lost odds) (t.opened + 1); slip = t.opened + 1 }), one_more t)

-- Close: void gives "nothing fits"; else a qubit erased or shelved gives "unfinished"; else an odd check gives "nothing fits"; else "solved"
abbrev pub outcome : State → Outcome
outcome s = cond s.void Nothing (cond (any s.erased || any s.shelved) Unfinished (cond (any s.odds) Nothing Solved))

abbrev pub verdict : State → Verdict
verdict s = record { outcome = outcome s; peeled = s.peeled; pruned = s.pruned; chosen = s.chosen }

abbrev pub counted : Outcome → Tally → Tally
counted Solved t = record { opened = t.opened; solved = t.solved + 1; nothing = t.nothing; unfinished = t.unfinished }
counted Nothing t = record { opened = t.opened; solved = t.solved; nothing = t.nothing + 1; unfinished = t.unfinished }
counted Unfinished t = record { opened = t.opened; solved = t.solved; nothing = t.nothing; unfinished = t.unfinished + 1 }

-- what a close leaves: its answer, the tally, and the slip if it is given back. The trial stays as it is
pub record Closed : Type 0 where
  pub answer : Result Verdict Refusal
  pub tally : Tally
  pub slip : Option ℕ

-- the slip is not the trial's, or the tally has none out
abbrev pub close_bars : State → ℕ → Tally → List Bar
close_bars s slip t = wrong_slip s slip ∷ bar (t.opened == closings t) WrongSlip ∷ []

abbrev pub given_back : {A : Type 0} → Result A Refusal → ℕ → Option ℕ
given_back (Ok a) slip = None
given_back (Err r) slip = Some slip

abbrev pub close : State → ℕ → Tally → Closed
close s slip t =
    let r : Result Verdict Refusal × Tally = unless (close_bars s slip t) t (Ok (verdict s), counted (outcome s) t) in
    record { answer = r.0; tally = r.1; slip = given_back r.0 slip }

-- Copy-out: 1 for a flipped qubit and 0 for another into the first bytes of a buffer; the others keep their values
abbrev pub byte : Bool → ℕ
byte true = 1
byte false = 0

abbrev pub copy_out : Meaning → State → List ℕ → Result (Unit {0}) Refusal × List ℕ
copy_out M s buffer = unless (too_short M buffer ∷ []) buffer (Ok tt, map byte s.flipped ++ drop (qubits M) buffer)
