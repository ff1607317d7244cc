use Rattle.std.proofs.Common.{ℕ, not, List, Option, Result, sym, ap, ◌∙◌, subst}
use Rattle.std.specs.List.{find, range_with_len}
use Rattle.terms.specs.declared.refusal.Refusal.{Refusal}
use Rattle.meaning.specs.Meaning.{qubits}
use Rattle.rules.specs.declared.answers.Cluster.{Cluster}
use Rattle.rules.specs.States.{State}
use Rattle.rules.specs.Calls.{dangling}
use Rattle.rules.specs.CallLists.{Solve}
use Rattle.rules.specs.Run.{as_call, can_solve}
use Rattle.running.specs.Turning.{taken}
use Rattle.running.specs.Solving.{solve_lowest}
use Rattle.running.proofs.Lowest.{first_is}
use Rattle.running.proofs.Shrinking.{solve_at_shrinks, Shrunk}
use Rattle.running.proofs.Staged.{solve_taken, solve_stays}
use Rattle.run.specs.Passed.{Passed}
use Rattle.run.proofs.Looked.{code, generators_stay, none_below_zero}
use Rattle.run.proofs.finding.solve_lowest.Goals as goal

pub returns-then-found_nothing-clause-does : goal.returns-then-found_nothing-clause-does
returns-then-found_nothing-clause-does c =
    let t = c.args.trial.now in
    let s = t.state in
    let y = c.args.scratch.now in
    let u = c.solve_lowest-answer.new.self.state in
    let o = find (can_solve (code t) y s) (range_with_len 0 (qubits (code t))) in
    ap (λ b. (not b, u)) (sym (sym c.found_nothing.ensures ∙ c.if-found_nothing.true))
    ∙ solve_taken (code t) s y o c.solve_lowest-answer.result u c.solve_lowest-answer.new.scratch (c.solve_lowest-answer.ensures.does ∙ ap (λ n. solve_lowest (code t) s n y) c.requires.shown)
    ∙ ap (λ x. taken (code t) s (as_call (λ q. Solve s.number q y) x)) (sym (first_is (can_solve (code t) y s) (range_with_len 0 (qubits (code t)))))

pub returns-then-found_nothing-clause-passed : goal.returns-then-found_nothing-clause-passed
returns-then-found_nothing-clause-passed c =
    let t = c.args.trial.now in
    let y = c.args.scratch.now in
    let o = find (can_solve (code t) y t.state) (range_with_len 0 (qubits (code t))) in
    let stays = solve_stays (code t) t.state c.args.slip.now.number y o c.solve_lowest-answer.result c.solve_lowest-answer.new.self.state c.solve_lowest-answer.new.scratch c.solve_lowest-answer.ensures.does (sym c.found_nothing.ensures ∙ c.if-found_nothing.true) in
    subst (λ (x : State). Passed (code t) x c.args.places.now) (sym stays) c.requires.passed

pub returns-clause-does : goal.returns-clause-does
returns-clause-does c =
    let t = c.args.trial.now in
    let s = t.state in
    let y = c.args.scratch.now in
    let u = c.solve_lowest-answer.new.self.state in
    let o = find (can_solve (code t) y s) (range_with_len 0 (qubits (code t))) in
    ap (λ b. (not b, u)) (sym (sym c.found_nothing.ensures ∙ c.if-found_nothing.false))
    ∙ solve_taken (code t) s y o c.solve_lowest-answer.result u c.solve_lowest-answer.new.scratch (c.solve_lowest-answer.ensures.does ∙ ap (λ n. solve_lowest (code t) s n y) c.requires.shown)
    ∙ ap (λ x. taken (code t) s (as_call (λ q. Solve s.number q y) x)) (sym (first_is (can_solve (code t) y s) (range_with_len 0 (qubits (code t)))))

pub returns-clause-passed : goal.returns-clause-passed
returns-clause-passed c =
    let t = c.args.trial.now in
    let u = c.solve_lowest-answer.new.self in
    let y = c.args.scratch.now in
    let o = find (can_solve (code t) y t.state) (range_with_len 0 (qubits (code t))) in
    let after = ap (λ (r : Result (Option Cluster) Refusal × State × List ℕ). r.1) c.solve_lowest-answer.ensures.does in
    record {
      checks = none_below_zero (dangling (code t) u.state);
      generators =
          generators_stay t u c.solve_lowest-answer.ensures.table c.args.places.now.generator
          (subst (λ (x : State). Shrunk (code t) t.state x) (sym after) (solve_at_shrinks (code t) t.state c.args.slip.now.number y o)) c.requires.passed.generators;
    }
