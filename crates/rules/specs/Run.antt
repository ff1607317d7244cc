-- A run: again and again the first that can be done, and then the shelf.
use Rattle.std.specs.Prelude.{ℕ, zero, suc, ◌/◌, ◌%◌, Bool, true, false, cond, not, ◌&&◌, ◌||◌, List, [], ◌∷◌, length, Some, None, Ok, Err, Result, ◌==◌, nat_lt}
use Rattle.std.proofs.Math.Option.{Option, none, some}
use Rattle.std.specs.List.{range_with_len}
use Rattle.std.specs.declared.option.Option as optional
use Rattle.terms.specs.declared.refusal.Refusal.{Refusal}
use Rattle.terms.specs.declared.refusal.Refusal.TheVariants.{OutsideLimits}
use Rattle.terms.specs.Refusals.{number}
use Rattle.sets.specs.Sets.{has, row, any, lowest, within}
use Rattle.meaning.specs.Meaning.{Meaning, qubits}
use Rattle.rules.specs.declared.answers.Ending.{Ending}
use Rattle.rules.specs.declared.answers.Ending.TheVariants.{Void, Emptied, Stopped}
use Rattle.rules.specs.States.{State}
use Rattle.rules.specs.Refusing.{Bar, bar, unless, wrong_slip, too_short, in_use}
use Rattle.rules.specs.Calls.{dangling, solve, sweep, settle}
use Rattle.rules.specs.CallLists.{Call, Peel, Prune, Solve, Sweep, call}

-- the first number of a list that passes
abbrev pub first_that : (ℕ → Bool) → List ℕ → Option ℕ
first_that p [] = none
first_that p (k ∷ l) = elim (p k) [ true ↦ some k | false ↦ first_that p l ]

abbrev pub or_else : {X : Type 0} → Option X → Option X → Option X
or_else (some x) o = some x
or_else none o = o

-- refused with 24 or 25
abbrev pub is24or25 : optional.Option ℕ → Bool
is24or25 (Some n) = n == 24 || n == 25
is24or25 None = false

abbrev pub passed_over : {A : Type 0} → Result A Refusal → Bool
passed_over (Ok a) = false
passed_over (Err r) = is24or25 (number r)

-- whether the switches, 1 peel, 2 prune, 4 solve, 8 sweep, added, name a stage
abbrev pub on : ℕ → ℕ → Bool
on switches stage = switches / stage % 2 == 1

abbrev pub only_if : {X : Type 0} → Bool → Option X → Option X
only_if true o = o
only_if false o = none

abbrev pub as_call : (ℕ → Call) → Option ℕ → Option Call
as_call f none = none
as_call f (some k) = some (f k)

-- peel the lowest dangling check
abbrev pub peelable : Meaning → State → Option Call
peelable M s = as_call (λ c. Peel s.number c) (first_that (dangling M s) (range_with_len 0 (length M.checks)))

-- prune by the lowest generator that has qubits and all of them erased, at its lowest qubit
abbrev pub all_erased : Meaning → State → ℕ → Bool
all_erased M s g = any (row M.generators g) && within (row M.generators g) s.erased

abbrev pub prunable : Meaning → State → Option Call
prunable M s = as_call (λ g. Prune s.number (lowest (row M.generators g)) (g ∷ [])) (first_that (all_erased M s) (range_with_len 0 (length M.generators)))

-- solve at the lowest erased qubit that is not refused with 24 or 25
abbrev pub can_solve : Meaning → List ℕ → State → ℕ → Bool
can_solve M scratch s q = has s.erased q && not (passed_over (solve M s s.number q scratch).0)

abbrev pub solvable : Meaning → List ℕ → State → Option Call
solvable M scratch s = as_call (λ q. Solve s.number q scratch) (first_that (can_solve M scratch s) (range_with_len 0 (qubits M)))

abbrev pub can_sweep : Meaning → State → Bool
can_sweep M s = any s.erased && not (passed_over (sweep M s s.number).0)

abbrev pub sweepable : Meaning → State → Option Call
sweepable M s = cond (can_sweep M s) (some (Sweep s.number)) none

-- the first that can be done, of what the switches name
abbrev pub next : Meaning → ℕ → List ℕ → State → Option Call
next M w scratch s =
    or_else (only_if (on w 1) (peelable M s)) (or_else (only_if (on w 2) (prunable M s)) (or_else (only_if (on w 4) (solvable M scratch s)) (only_if (on w 8) (sweepable M s))))

-- each turn makes something erased done or shelved, or the trial void: as many turns as there are qubits are enough
abbrev pub turns : Meaning → ℕ → List ℕ → ℕ → State → State
turns M w scratch zero s = s
turns M w scratch (suc n) s = elim s.void [ true ↦ s | false ↦ elim (next M w scratch s) [ none ↦ s | some c ↦ turns M w scratch n (call M s c) ] ]

-- the shelf is settled; where something is erased or the trial is void, each settle is refused and changes nothing
abbrev pub settles : Meaning → ℕ → State → State
settles M zero s = s
settles M (suc n) s = settles M n (settle M s s.number).1

abbrev pub ran : Meaning → ℕ → List ℕ → State → State
ran M w scratch s = let t : State = turns M w scratch (qubits M) s in settles M (length t.shelf) t

abbrev pub ending : State → Ending
ending s = cond s.void Void (cond (any s.erased || any s.shelved) Stopped Emptied)

abbrev pub run_bars : Meaning → State → ℕ → ℕ → List ℕ → List Bar
run_bars M s slip w scratch = too_short M scratch ∷ bar (nat_lt 15 w) OutsideLimits ∷ in_use M scratch ∷ wrong_slip s slip ∷ []

-- a void trial is no refusal here; the scratch bytes are afterwards as they were before
abbrev pub run : Meaning → State → ℕ → ℕ → List ℕ → Result Ending Refusal × State × List ℕ
run M s slip w scratch =
    let t : State = ran M w scratch s in
    let r : Result Ending Refusal × State = unless (run_bars M s slip w scratch) s (Ok (ending t), t) in
    (r.0, r.1, scratch)
