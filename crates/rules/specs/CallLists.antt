-- A list of calls on one trial, each made on what the one before left, refused or not.
use Rattle.std.specs.Prelude.{◌≡◌, ℕ, List, [], ◌∷◌, Ok}
use Rattle.meaning.specs.Meaning.{Meaning}
use Rattle.rules.specs.declared.answers.Verdict.{Verdict}
use Rattle.rules.specs.States.{State}
use Rattle.rules.specs.Calls.{peel, prune, solve, sweep, settle}
use Rattle.rules.specs.Tallies.{Tally, close}

-- a call with all its arguments; the first is the number of the slip that is shown
pub data Call : Type 0 where
  Peel : (slip : ℕ) → (check : ℕ) → Call
  Prune : (slip : ℕ) → (qubit : ℕ) → (generators : List ℕ) → Call
  Solve : (slip : ℕ) → (qubit : ℕ) → (scratch : List ℕ) → Call
  Sweep Settle : (slip : ℕ) → Call
  Close : (slip : ℕ) → (tally : Tally) → Call

-- the trial after a call; close leaves it as it is
abbrev pub call : Meaning → State → Call → State
call M s (Peel slip c) = (peel M s slip c).1
call M s (Prune slip q l) = (prune M s slip q l).1
call M s (Solve slip q scratch) = (solve M s slip q scratch).1
call M s (Sweep slip) = (sweep M s slip).1
call M s (Settle slip) = (settle M s slip).1
call M s (Close slip tally) = s

abbrev pub after : Meaning → State → List Call → State
after M s [] = s
after M s (c ∷ calls) = after M (call M s c) calls

-- in the list, made on the trial s, a close is accepted and answers v; t is the trial at that close
pub data ClosedIn (M : Meaning) (t : State) (v : Verdict) : State → List Call → Type 0 where
  here : {slip : ℕ} {tally : Tally} {calls : List Call} → (close t slip tally).answer ≡ Ok v → ClosedIn M t v t (Close slip tally ∷ calls)
  later : {s : State} {c : Call} {calls : List Call} → ClosedIn M t v (call M s c) calls → ClosedIn M t v s (c ∷ calls)
