-- What the stages of a turn do.
use Rattle.std.proofs.Common.{◌≡◌, ℕ, true, false, not, List, Some, None, Ok, Err, Option, Result, refl, ap, ◌∙◌}
use Rattle.terms.specs.declared.refusal.Refusal.{Refusal}
use Rattle.sets.proofs.Bits.{clash}
use Rattle.meaning.specs.Meaning.{Meaning}
use Rattle.rules.specs.declared.answers.Cluster.{Cluster}
use Rattle.rules.specs.States.{State}
use Rattle.rules.specs.Calls.{solve}
use Rattle.rules.specs.CallLists.{Solve}
use Rattle.rules.specs.Run.{as_call}
use Rattle.running.specs.Finding.{in_rules}
use Rattle.running.specs.Turning.{taken}
use Rattle.running.specs.Solving.{of_some, found_nothing, solve_at}

something : (x : Result Cluster Refusal) → found_nothing (of_some x) ≡ false
something (Ok c) = refl
something (Err r) = refl

-- a solve at the lowest qubit, as a turn takes it
pub solve_taken : (M : Meaning) (s : State) (scratch : List ℕ) (o : Option ℕ) (r : Result (Option Cluster) Refusal) (t : State) (y : List ℕ) → (r, t, y) ≡ solve_at M s s.number scratch o
    → (not (found_nothing r), t) ≡ taken M s (as_call (λ q. Solve s.number q scratch) (in_rules o))
solve_taken M s scratch None r t y e = ap (λ (x : Result (Option Cluster) Refusal × State × List ℕ). (not (found_nothing x.0), x.1)) e
solve_taken M s scratch (Some q) r t y e =
    ap (λ (x : Result (Option Cluster) Refusal × State × List ℕ). (not (found_nothing x.0), x.1)) e
    ∙ ap (λ b. (not b, (solve M s s.number q scratch).1)) (something (solve M s s.number q scratch).0)

-- where there was nothing to solve, nothing changed
pub solve_stays : (M : Meaning) (s : State) (slip : ℕ) (scratch : List ℕ) (o : Option ℕ) (r : Result (Option Cluster) Refusal) (t : State) (y : List ℕ) → (r, t, y) ≡ solve_at M s slip scratch o
    → found_nothing r ≡ true → t ≡ s
solve_stays M s slip scratch None r t y e h = ap (λ (x : Result (Option Cluster) Refusal × State × List ℕ). x.1) e
solve_stays M s slip scratch (Some q) r t y e h =
    absurd (clash h (ap (λ (x : Result (Option Cluster) Refusal × State × List ℕ). found_nothing x.0) e ∙ something (solve M s slip q scratch).0))
