-- What is found of the cluster of a qubit.
use Rattle.std.specs.Prelude.{◌≡◌, ℕ, ◌≤◌, Bool, true, false, List, [], length, vec_items, Some, None, Option}
use Rattle.terms.specs.declared.refusal.Refusal.{Refusal}
use Rattle.sets.specs.Sets.{has, size, lowest, elements}
use Rattle.meaning.specs.Meaning.{Meaning, qubits}
use Rattle.rules.specs.States.{State}
use Rattle.rules.specs.Clusters.{cluster, free}
use Rattle.rules.specs.Moves.{solve_from, connects}
use Rattle.rules.specs.Calls.{solve_bars}
use Rattle.upkeep.specs.Fault.{fault}
use Rattle.upkeep.specs.Statuses.{erased_of}
use Rattle.systems.specs.declared.System.{System}
use Rattle.walking.specs.Found.{told}
use Rattle.walking.specs.Walked.{Findings}
use Rattle.walking.specs.declared.found.Connecting.{Connecting}
use Rattle.trial.specs.declared.trial.board.Board.{Board}
use Rattle.trial.specs.declared.trial.finding.Finding.{Finding}
use Rattle.trial.specs.Solving.{SolvedOver}

-- a state that is not void stands on the board b, with these closed checks
pub record StandsOn (b : Board) (shut : List Bool) (s : State) : Type 0 where
  pub erased : s.erased ≡ erased_of (vec_items b.erasures.status)
  pub closed : s.closed ≡ shut
  pub odds : s.odds ≡ vec_items b.odd
  pub live : s.void ≡ false

-- why a solve at q is refused before its system is solved, if it is
abbrev pub solve_fault : Meaning → State → ℕ → List ℕ → Option Refusal
solve_fault M s q scratch = fault (solve_bars M s q scratch (cluster M s q) (connects M s q))

-- the cluster of the erased qubit q has at most one connecting check, which is told
pub record Met (M : Meaning) (s : State) (q : ℕ) (c : Connecting) : Type 0 where
  pub erased : length s.erased ≡ qubits M
  pub closed : length s.closed ≡ length M.checks
  pub odds : length s.odds ≡ length M.checks
  pub start : has s.erased q ≡ true
  pub tells : c ≡ told (connects M s q)
  pub few : size (connects M s q) ≤ 1

-- whether the cluster of q has a free check, and which it is
abbrev pub IsFree : Meaning → State → ℕ → Option ℕ → Type 0
IsFree M s q None = free M s (cluster M s q) (connects M s q) ≡ false
IsFree M s q (Some c) = (free M s (cluster M s q) (connects M s q) ≡ true) × (has (connects M s q) c ≡ true) × (lowest (connects M s q) ≡ c)

-- there is no solution over the internal checks; or the least one stands in the system, and the slack and the free check are told
abbrev pub FoundOf : System → Meaning → State → ℕ → Option Finding → Type 0
FoundOf e M s q None = solve_from M s q ≡ []
FoundOf e M s q (Some f) = SolvedOver e (cluster M s q) (solve_from M s q) (Some f.slack) × IsFree M s q f.free

-- and the members of the cluster, at most 256, stand in the walker
pub record FoundBy (w : Findings) (e : System) (M : Meaning) (s : State) (q : ℕ) (o : Option Finding) : Type 0 where
  pub members : w.members ≡ elements (cluster M s q)
  pub few : size (cluster M s q) ≤ 256
  pub start : has s.erased q ≡ true
  pub found : FoundOf e M s q o
