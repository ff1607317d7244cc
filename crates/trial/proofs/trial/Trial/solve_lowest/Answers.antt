use Rattle.std.proofs.Common.{◌≡◌, ℕ, List, Some, Ok, Err, Option, Result, sym, refl, ap, ◌∙◌, subst}
use Rattle.std.specs.List.{find, range_with_len}
use Rattle.std.proofs.lemmas.Result.{err_from_is_err_and}
use Rattle.terms.specs.declared.refusal.Refusal.{Refusal}
use Rattle.meaning.specs.Meaning.{qubits}
use Rattle.rules.specs.declared.answers.Cluster.{Cluster}
use Rattle.rules.specs.States.{State}
use Rattle.rules.specs.Calls.{solve}
use Rattle.rules.specs.Run.{can_solve}
use Rattle.running.specs.Solving.{of_some, solve_lowest}
use Rattle.trial.specs.Passing.{ShownBy}
use Rattle.trial.specs.Standing.{Standing}
use Rattle.trial.specs.Seen.{standing_of}
use Rattle.trial.proofs.Done.{code}
use Rattle.trial.proofs.Passes.{solved_at}
use Rattle.trial.proofs.trial.Trial.solve_lowest.Goals as goal

pub returns-in_err-cluster-clause-does : goal.returns-in_err-cluster-clause-does
returns-in_err-cluster-clause-does c =
    let x = standing_of c.self.inside in
    let s = x.state in
    let slip = c.args.slip.now.number in
    let y = c.args.scratch.now in
    let on : ShownBy c.self.inside.board.erasures.status.items c.as_slice-closed.result.now c.self.inside.void s = record { erased = refl; closed = sym c.as_slice-closed.ensures.value; marked = refl } in
    let does = c.solve.ensures.does ∙ ap (λ (l : List ℕ). solve (code x) s slip c.in-Some.qubit l) c.lowest_solvable-qubit.ensures.scratch in
    let p = err_from_is_err_and c.from_residual.result c.from_residual.ensures.1 in
    subst (λ (t : Standing). ◌≡◌ {A = Result (Option Cluster) Refusal × State × List ℕ} (c.from_residual.result, c.solve.new.self.state, c.solve.new.scratch) (solve_lowest (code t) t.state slip y)) c.self.view_is
    (ap (λ (r : Result (Option Cluster) Refusal). (r, c.solve.new.self.state, c.solve.new.scratch)) (p.1 ∙ ap Err p.2)
    ∙ ap (λ (r : Result Cluster Refusal). (of_some r, c.solve.new.self.state, c.solve.new.scratch)) (sym c.in_err-cluster.was)
    ∙ solved_at (code x) s slip y (find (can_solve (code x) y s) (range_with_len 0 (qubits (code x)))) c.in-Some.qubit (c.in-Some.ensures.finds s on) c.solve.result c.solve.new.self.state c.solve.new.scratch does)

pub returns-clause-does : goal.returns-clause-does
returns-clause-does c =
    let x = standing_of c.self.inside in
    let s = x.state in
    let slip = c.args.slip.now.number in
    let y = c.args.scratch.now in
    let on : ShownBy c.self.inside.board.erasures.status.items c.as_slice-closed.result.now c.self.inside.void s = record { erased = refl; closed = sym c.as_slice-closed.ensures.value; marked = refl } in
    let does = c.solve.ensures.does ∙ ap (λ (l : List ℕ). solve (code x) s slip c.in-Some.qubit l) c.lowest_solvable-qubit.ensures.scratch in
    subst (λ (t : Standing). ◌≡◌ {A = Result (Option Cluster) Refusal × State × List ℕ} (Ok (Some c.in_ok-cluster.cluster), c.solve.new.self.state, c.solve.new.scratch) (solve_lowest (code t) t.state slip y)) c.self.view_is
    (ap (λ (r : Result Cluster Refusal). (of_some r, c.solve.new.self.state, c.solve.new.scratch)) (sym c.in_ok-cluster.was)
    ∙ solved_at (code x) s slip y (find (can_solve (code x) y s) (range_with_len 0 (qubits (code x)))) c.in-Some.qubit (c.in-Some.ensures.finds s on) c.solve.result c.solve.new.self.state c.solve.new.scratch does)
