-- What is proved beside the law.
use Rattle.std.specs.Prelude.{◌≡◌, ℕ, ◌+◌, ◌^◌, ◌<◌, ◌≤◌, Bool, true, false, ◌≢◌, ◌⊎◌, ◌↔◌, List, [], ◌∷◌, map, length, Some, Ok, Err, Result, slice_index}
use Rattle.std.proofs.Math.Option.{none}
use Rattle.terms.specs.declared.refusal.Refusal.{Refusal}
use Rattle.terms.specs.declared.refusal.Refusal.TheVariants.{NoSolution}
use Rattle.sets.specs.Lists.{In, Lists, Exactly}
use Rattle.sets.specs.Sets.{has, any, size}
use Rattle.meaning.specs.Meaning.{Meaning, Sound, qubits}
use Rattle.rules.specs.declared.answers.Cluster.{Cluster}
use Rattle.rules.specs.declared.answers.Ending.{Ending}
use Rattle.rules.specs.declared.answers.Verdict.{Verdict}
use Rattle.rules.specs.Reports.{Report}
use Rattle.rules.specs.Systems.{solutions, Solves, slack, Lesser}
use Rattle.rules.specs.States.{Entry, State, voided}
use Rattle.rules.specs.Clusters.{cluster, Reached}
use Rattle.rules.specs.Calls.{peel, prune, solve, sweep, settle}
use Rattle.rules.specs.Tallies.{Tally, closings, open_trial, close, copy_out}
use Rattle.rules.specs.CallLists.{Call, after}
use Rattle.rules.specs.Moves.{settle_from}
use Rattle.rules.specs.Run.{next, run}
use Rattle.rules.specs.Books.{Books, new_books, Event, kept}
use Rattle.rules.specs.Small.{told, questions, answers}
use Rattle.rules.specs.Law.{Always}

-- with nothing erased and an entry on the shelf of a trial that is not void, the entry's system has a solution, and a settle with the
-- trial's slip is accepted
abbrev pub CanSettle : Meaning → Report → State → Type 0
CanSettle M R s = s.void ≡ false → any s.erased ≡ false → (e : Entry) (l : List Entry) → s.shelf ≡ e ∷ l
    → ((z : List Bool) × In z (settle_from M s e l)) × ((settle M s s.number).0 ≡ Ok tt)

-- settle never lacks a solution, whatever calls were made
abbrev pub Settles : Type 0
Settles = Always CanSettle

-- the checks are sets of as many numbers as the unknowns, and `among` a set of checks
pub record System (checks : List (List Bool)) (unknowns among : List Bool) : Type 0 where
  pub checks_range : (c : List Bool) → In c checks → length c ≡ length unknowns
  pub among_range : length among ≡ length checks

-- the listed solutions are the subsets of the unknowns that put an odd number into exactly the odd checks, each once
abbrev pub SolutionsListed : Type 0
SolutionsListed = (checks : List (List Bool)) (unknowns among odds : List Bool) → System checks unknowns among → Lists (Solves checks unknowns among odds) (solutions checks unknowns among odds)

-- if there is a solution, there are exactly 2 ^ slack
abbrev pub SlackCounts : Type 0
SlackCounts = (checks : List (List Bool)) (unknowns among odds z : List Bool) → System checks unknowns among → In z (solutions checks unknowns among odds)
    → Exactly (2 ^ slack (solutions checks unknowns among odds)) (Solves checks unknowns among odds)

-- the first solution is the least: it lacks the lowest qubit in which it differs from any other
abbrev pub LeastFirst : Type 0
LeastFirst = (checks : List (List Bool)) (unknowns among odds z : List Bool) (found : List (List Bool)) → solutions checks unknowns among odds ≡ z ∷ found
    → (x : List Bool) → In x (solutions checks unknowns among odds) → (x ≡ z) ⊎ Lesser z x

-- a cluster is what is reached by touching
abbrev pub ClusterReached : Type 0
ClusterReached = (M : Meaning) → Sound M → (s : State) → length s.erased ≡ qubits M → (q : ℕ) → has s.erased q ≡ true
    → (i : ℕ) → (has (cluster M s q) i ≡ true) ↔ Reached M s q i

-- what a run does, some list of calls does
abbrev pub RunIsCalls : Type 0
RunIsCalls = (M : Meaning) (s : State) (slip switches : ℕ) (scratch : List ℕ) → (calls : List Call) × ((run M s slip switches scratch).1 ≡ after M s calls)

-- an accepted run leaves the trial void, or goes on until nothing more can be done, and with nothing erased until the shelf is empty
abbrev pub RunsOut : Meaning → Report → State → Type 0
RunsOut M R s = (slip switches : ℕ) (scratch : List ℕ) (e : Ending) → (run M s slip switches scratch).0 ≡ Ok e
    → let t : State = (run M s slip switches scratch).1 in (t.void ≡ true) ⊎ ((next M switches scratch t ≡ none) × (any t.erased ≡ false → t.shelf ≡ []))

abbrev pub RunEnds : Type 0
RunEnds = Always RunsOut

-- with all stages on and at most 256 lost qubits it leaves nothing erased or shelved, unless void
abbrev pub RunsEmpty : Meaning → Report → State → Type 0
RunsEmpty M R s = size R.lost ≤ 256 → (slip : ℕ) (scratch : List ℕ) (e : Ending) → (run M s slip 15 scratch).0 ≡ Ok e
    → let t : State = (run M s slip 15 scratch).1 in (t.void ≡ true) ⊎ ((any t.erased ≡ false) × (any t.shelved ≡ false))

abbrev pub FullRunEmpties : Type 0
FullRunEmpties = Always RunsEmpty

-- what is counted was lost: peeled, pruned and chosen, with what is still erased or shelved, are no more than the lost qubits
abbrev pub Counted : Meaning → Report → State → Type 0
Counted M R s = s.peeled + s.pruned + s.chosen + size s.erased + size s.shelved ≤ size R.lost

abbrev pub CountsStay : Type 0
CountsStay = Always Counted

-- what a refused call leaves is what was there before
abbrev pub Kept : {A S : Type 0} → S → Result A Refusal × S → Type 0
Kept before (Ok a, later) = Unit {0}
Kept before (Err r, later) = later ≡ before

-- or it is a 26 that set void
abbrev pub KeptOrVoid : {A : Type 0} → State → Result A Refusal × State → Type 0
KeptOrVoid before (Ok a, later) = Unit {0}
KeptOrVoid before (Err r, later) = (later ≡ before) ⊎ ((r ≡ NoSolution) × (before.void ≡ false) × (later ≡ voided before))

-- a refused call changes nothing, but for a 26 of solve or sweep that sets void; a refused close gives the slip back
pub record Refusals (M : Meaning) (s : State) : Type 0 where
  pub peel_kept : (slip c : ℕ) → Kept s (peel M s slip c)
  pub prune_kept : (slip q : ℕ) (l : List ℕ) → Kept s (prune M s slip q l)
  pub solve_kept : (slip q : ℕ) (scratch : List ℕ) → KeptOrVoid s ((solve M s slip q scratch).0, (solve M s slip q scratch).1)
  pub sweep_kept : (slip : ℕ) → KeptOrVoid s (sweep M s slip)
  pub settle_kept : (slip : ℕ) → Kept s (settle M s slip)
  pub run_kept : (slip switches : ℕ) (scratch : List ℕ) → Kept s ((run M s slip switches scratch).0, (run M s slip switches scratch).1)
  pub scratch_kept : (slip q switches : ℕ) (scratch : List ℕ) → ((solve M s slip q scratch).2 ≡ scratch) × ((run M s slip switches scratch).2 ≡ scratch)
  pub copy_kept : (buffer : List ℕ) → Kept buffer (copy_out M s buffer)
  pub open_kept : (t : Tally) (lost odds : List ℕ) → Kept t (open_trial M t lost odds)
  pub close_kept : (slip : ℕ) (t : Tally) → Kept t ((close s slip t).answer, (close s slip t).tally)
  pub slip_back : (slip : ℕ) (t : Tally) (r : Refusal) → (close s slip t).answer ≡ Err r → (close s slip t).slip ≡ Some slip

abbrev pub RefusalsKeep : Type 0
RefusalsKeep = (M : Meaning) (s : State) → Refusals M s

-- what an accepted copy-out writes: a byte a qubit, 1 exactly if it is flipped and 0 otherwise; the buffer's other bytes and its length stay
pub record Copied (M : Meaning) (s : State) (buffer written : List ℕ) : Type 0 where
  pub one : (q : ℕ) → q < qubits M → has s.flipped q ≡ true → slice_index written q ≡ 1
  pub nought : (q : ℕ) → q < qubits M → has s.flipped q ≡ false → slice_index written q ≡ 0
  pub others : (i : ℕ) → qubits M ≤ i → slice_index written i ≡ slice_index buffer i
  pub same_length : length written ≡ length buffer

abbrev pub CopiesOut : Type 0
CopiesOut = (M : Meaning) (s : State) (buffer : List ℕ) → length s.flipped ≡ qubits M → (copy_out M s buffer).0 ≡ Ok tt → Copied M s buffer (copy_out M s buffer).1

-- no call is accepted that is shown another slip than the trial's, and no close on a tally that has none out
pub record Shown (M : Meaning) (s : State) (slip : ℕ) : Type 0 where
  pub peel_shown : (c q : ℕ) → (peel M s slip c).0 ≡ Ok q → slip ≡ s.number
  pub prune_shown : (q : ℕ) (l : List ℕ) → (prune M s slip q l).0 ≡ Ok tt → slip ≡ s.number
  pub solve_shown : (q : ℕ) (scratch : List ℕ) (k : Cluster) → (solve M s slip q scratch).0 ≡ Ok k → slip ≡ s.number
  pub sweep_shown : (sweep M s slip).0 ≡ Ok tt → slip ≡ s.number
  pub settle_shown : (settle M s slip).0 ≡ Ok tt → slip ≡ s.number
  pub run_shown : (switches : ℕ) (scratch : List ℕ) (e : Ending) → (run M s slip switches scratch).0 ≡ Ok e → slip ≡ s.number
  pub close_shown : (t : Tally) (v : Verdict) → (close s slip t).answer ≡ Ok v → (slip ≡ s.number) × (t.opened ≢ closings t)

abbrev pub SlipShown : Type 0
SlipShown = (M : Meaning) (s : State) (slip : ℕ) → Shown M s slip

-- with one tally, over any list of openings and closes: opened is the number of accepted openings, at most 1,000,000, and is made up of the
-- closes and the slips out
abbrev pub Balance : Type 0
Balance = (events : List Event) →
    let b : Books = kept events new_books in
    (b.tally.opened ≡ b.accepted) × (b.tally.opened ≤ 1000000) × (b.tally.opened ≡ closings b.tally + length b.out)

abbrev pub SmallReports : Type 0
SmallReports = map told questions ≡ answers
