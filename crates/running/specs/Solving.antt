-- Solving at the lowest qubit that a solve is not refused at with 24 or 25.
use Rattle.std.specs.Prelude.{ℕ, Bool, true, false, List, Some, None, Ok, Err, Option, Result}
use Rattle.std.specs.List.{find, range_with_len}
use Rattle.terms.specs.declared.refusal.Refusal.{Refusal}
use Rattle.meaning.specs.Meaning.{Meaning, qubits}
use Rattle.rules.specs.declared.answers.Cluster.{Cluster}
use Rattle.rules.specs.States.{State}
use Rattle.rules.specs.Calls.{solve}
use Rattle.rules.specs.Run.{can_solve}

-- what became of the cluster, if there was one to solve
abbrev pub of_some : Result Cluster Refusal → Result (Option Cluster) Refusal
of_some (Ok c) = Ok (Some c)
of_some (Err r) = Err r

-- whether there was none
abbrev pub found_nothing : Result (Option Cluster) Refusal → Bool
found_nothing (Ok None) = true
found_nothing (Ok (Some c)) = false
found_nothing (Err r) = false

-- a solve at the qubit that was found, if one was
abbrev pub solve_at : Meaning → State → ℕ → List ℕ → Option ℕ → Result (Option Cluster) Refusal × State × List ℕ
solve_at M s slip scratch None = (Ok None, s, scratch)
solve_at M s slip scratch (Some q) = let r : Result Cluster Refusal × State × List ℕ = solve M s slip q scratch in (of_some r.0, r.1, r.2)

-- the qubit: the lowest erased one that is not refused with 24 or 25
abbrev pub solve_lowest : Meaning → State → ℕ → List ℕ → Result (Option Cluster) Refusal × State × List ℕ
solve_lowest M s slip scratch = solve_at M s slip scratch (find (can_solve M scratch s) (range_with_len 0 (qubits M)))
