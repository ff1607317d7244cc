use Rattle.std.proofs.Common.{◌≡◌, ℕ, ◌+◌, ◌≤◌, true, false, eqb, Some, None, Ok, Err, Option, Result, sym, refl, ap, ◌∙◌, subst, arith}
use Rattle.std.proofs.lemmas.Result.{err_from_is_err_and}
use Rattle.terms.specs.declared.refusal.Refusal.{Refusal}
use Rattle.terms.specs.declared.refusal.Refusal.TheVariants.{NothingErased, NoSolution, WrongSlip}
use Rattle.sets.specs.Sets.{size}
use Rattle.meaning.specs.Meaning.{qubits}
use Rattle.linear.specs.Field.{bits}
use Rattle.linear.specs.Compress.{expand}
use Rattle.rules.specs.States.{State, finish, voided}
use Rattle.rules.specs.Moves.{sweep_from}
use Rattle.rules.specs.Clusters.{touched}
use Rattle.rules.specs.Calls.{sweep, choose}
use Rattle.table.specs.OfTable.{meaning_of}
use Rattle.table.specs.declared.Table.{Table}
use Rattle.trial.specs.Boards.{on_board}
use Rattle.rules.proofs.Counts.{slack_below}
use Rattle.table.specs.Stands.{table_sound}
use Rattle.upkeep.proofs.Every.{room_for_all}
use Rattle.upkeep.proofs.Finish.{total, with_counts}
use Rattle.trial.specs.Standing.{Standing}
use Rattle.trial.specs.Seen.{standing_of}
use Rattle.trial.proofs.Done.{code, still_sized, still_equipped}
use Rattle.systems.specs.Stated.{least_of}
use Rattle.systems.specs.Told.{Found, spread}
use Rattle.trial.proofs.Sweeps.{of_nothing, of_many, of_none, of_wrong, of_right, any_listed, none_listed, none_past, Solved, solved, unsolved, no_slack, chooses}
use Rattle.trial.proofs.trial.Trial.sweep.Goals as goal

pub returns-then-is_empty-clause-does : goal.returns-then-is_empty-clause-does
returns-then-is_empty-clause-does c =
    let x = standing_of c.self.inside in
    let s = x.state in
    let slip = c.args.slip.now.number in
    subst (λ (t : Standing). ◌≡◌ {A = Result (Unit {0}) Refusal × State} (Err NothingErased, s) (sweep (code t) t.state slip)) c.self.view_is
    (of_nothing (code x) s slip c.if-self.false (none_listed s.erased _ (sym c.list.ensures.lists) (ap (λ n. eqb n 0) (sym c.list.new.list.ok.0) ∙ sym c.is_empty.ensures ∙ c.if-is_empty.true)))

pub returns-in_err-slack-clause-does : goal.returns-in_err-slack-clause-does
returns-in_err-slack-clause-does c =
    let x = standing_of c.self.inside in
    let s = x.state in
    let slip = c.args.slip.now.number in
    let is = sym c.list.ensures.lists ∙ sym c.as_slice.ensures.value in
    let some = any_listed s.erased _ (sym c.list.ensures.lists) (ap (λ n. eqb n 0) (sym c.list.new.list.ok.0) ∙ sym c.is_empty.ensures ∙ c.if-is_empty.false) in
    let many = unsolved (code x) s _ _ _ is c.as_slice-2.ensures.value c.as_slice-3.ensures.value c.self.inside.sized.closed c.self.inside.sized.odds c.solve_touched.new.system _ c.in_err-slack.ensures in
    let p = err_from_is_err_and c.from_residual.result c.from_residual.ensures.1 in
    subst (λ (t : Standing). ◌≡◌ {A = Result (Unit {0}) Refusal × State} (c.from_residual.result, s) (sweep (code t) t.state slip)) c.self.view_is
    (ap (λ (r : Result (Unit {0}) Refusal). (r, s)) (p.1 ∙ ap Err (p.2 ∙ many.1)) ∙ of_many (code x) s slip c.if-self.false some many.0)

pub returns-in_default-clause-does : goal.returns-in_default-clause-does
returns-in_default-clause-does c =
    let x = standing_of c.self.inside in
    let s = x.state in
    let slip = c.args.slip.now.number in
    let is = sym c.list.ensures.lists ∙ sym c.as_slice.ensures.value in
    let some = any_listed s.erased _ (sym c.list.ensures.lists) (ap (λ n. eqb n 0) (sym c.list.new.list.ok.0) ∙ sym c.is_empty.ensures ∙ c.if-is_empty.false) in
    let o : Option ℕ = c.in_ok-slack.slack in
    let h : Solved (code x) s c.solve_touched.new.system o = solved (code x) s _ _ _ is c.as_slice-2.ensures.value c.as_slice-3.ensures.value c.self.inside.sized.closed c.self.inside.sized.odds c.solve_touched.new.system o c.in_ok-slack.ensures in
    let none : o ≡ None = no_slack o c.in_default.not-Some in
    subst (λ (t : Standing). ◌≡◌ {A = Result (Unit {0}) Refusal × State} (Err NoSolution, voided s) (sweep (code t) t.state slip)) c.self.view_is
    (of_none (code x) s slip c.if-self.false some h.few (subst (λ (n : Option ℕ). Found (sweep_from (code x) s) n (spread s.erased (least_of c.solve_touched.new.system))) none h.found))

pub returns-then-not-shown-clause-does : goal.returns-then-not-shown-clause-does
returns-then-not-shown-clause-does c =
    let x = standing_of c.self.inside in
    let s = x.state in
    let slip = c.args.slip.now.number in
    let is = sym c.list.ensures.lists ∙ sym c.as_slice.ensures.value in
    let some = any_listed s.erased _ (sym c.list.ensures.lists) (ap (λ n. eqb n 0) (sym c.list.new.list.ok.0) ∙ sym c.is_empty.ensures ∙ c.if-is_empty.false) in
    let h : Solved (code x) s c.solve_touched.new.system (Some c.in-Some.slack) =
    subst (λ (o : Option ℕ). Solved (code x) s c.solve_touched.new.system o) c.in-Some.is
    (solved (code x) s _ _ _ is c.as_slice-2.ensures.value c.as_slice-3.ensures.value c.self.inside.sized.closed c.self.inside.sized.odds c.solve_touched.new.system c.in_ok-slack.slack c.in_ok-slack.ensures) in
    let other : eqb slip s.number ≡ false = ap (λ (t : Standing). eqb slip t.state.number) c.self.view_is ∙ sym c.if-not-shown.ensures in
    subst (λ (t : Standing). ◌≡◌ {A = Result (Unit {0}) Refusal × State} (Err WrongSlip, s) (sweep (code t) t.state slip)) c.self.view_is
    (of_wrong (code x) s slip c.if-self.false some h.few _ h.found.0 h.found.1 other)

pub finish_each-requires : goal.finish_each-requires
finish_each-requires c =
    let x = standing_of c.self.inside in
    let s = x.state in
    let is = sym c.list.ensures.lists ∙ sym c.as_slice.ensures.value in
    let h : Solved (code x) s c.solve_touched.new.system (Some c.in-Some.slack) =
    subst (λ (o : Option ℕ). Solved (code x) s c.solve_touched.new.system o) c.in-Some.is
    (solved (code x) s _ _ _ is c.as_slice-2.ensures.value c.as_slice-3.ensures.value c.self.inside.sized.closed c.self.inside.sized.odds c.solve_touched.new.system c.in_ok-slack.slack c.in_ok-slack.ensures) in
    none_past s.erased _ (h.unknowns ∙ sym c.unknowns.ensures) (qubits (code x)) x.sized.erased

pub overflow_add-self : goal.overflow_add-self
overflow_add-self c =
    let x = standing_of c.self.inside in
    let s = x.state in
    let is = sym c.list.ensures.lists ∙ sym c.as_slice.ensures.value in
    let h : Solved (code x) s c.solve_touched.new.system (Some c.in-Some.slack) =
    subst (λ (o : Option ℕ). Solved (code x) s c.solve_touched.new.system o) c.in-Some.is
    (solved (code x) s _ _ _ is c.as_slice-2.ensures.value c.as_slice-3.ensures.value c.self.inside.sized.closed c.self.inside.sized.odds c.solve_touched.new.system c.in_ok-slack.slack c.in_ok-slack.ensures) in
    let less : c.in-Some.slack ≤ size s.erased = omega (arith, slack_below (code x).checks s.erased (touched (code x) s s.erased) s.odds, h.found.2) in
    omega (arith, less, x.sized.few, (table_sound x.table).few_qubits)

pub invariant_of-self-inside-2 : goal.invariant_of-self-inside-2
invariant_of-self-inside-2 c =
    let x = standing_of c.self.inside in
    let s = x.state in
    let is = sym c.list.ensures.lists ∙ sym c.as_slice.ensures.value in
    let h : Solved (code x) s c.solve_touched.new.system (Some c.in-Some.slack) =
    subst (λ (o : Option ℕ). Solved (code x) s c.solve_touched.new.system o) c.in-Some.is
    (solved (code x) s _ _ _ is c.as_slice-2.ensures.value c.as_slice-3.ensures.value c.self.inside.sized.closed c.self.inside.sized.odds c.solve_touched.new.system c.in_ok-slack.slack c.in_ok-slack.ensures) in
    let less : c.in-Some.slack ≤ size s.erased = omega (arith, slack_below (code x).checks s.erased (touched (code x) s s.erased) s.odds, h.found.2) in
    let b = c.finish_each.new.self in
    let z = expand bits s.erased c.least.result.now in
    let done : on_board b s ≡ finish (code x) s.erased z s = c.finish_each.ensures.does s.erased x.sized.erased (h.unknowns ∙ sym c.unknowns.ensures) s in
    let i = still_sized c.self.inside b s.erased z c.finish_each.ensures.table done in
    let n = ap (λ (t : Table). qubits (meaning_of t)) c.finish_each.ensures.table in (
      record { erased = i.erased; shelved = i.shelved; flipped = i.flipped; closed = i.closed; odds = i.odds; waiting = i.waiting; few = omega (arith, room_for_all (code x) s s.erased z c.in-Some.slack refl (λ j e. e) less, ap total done, x.sized.few, n) },
      (still_equipped _ _ _ _ _ _ _ c.finish_each.ensures.table c.list.ensures.capacity refl c.self.inside.equipped, tt),
    )

pub returns-clause-does : goal.returns-clause-does
returns-clause-does c =
    let x = standing_of c.self.inside in
    let s = x.state in
    let is = sym c.list.ensures.lists ∙ sym c.as_slice.ensures.value in
    let h : Solved (code x) s c.solve_touched.new.system (Some c.in-Some.slack) =
    subst (λ (o : Option ℕ). Solved (code x) s c.solve_touched.new.system o) c.in-Some.is
    (solved (code x) s _ _ _ is c.as_slice-2.ensures.value c.as_slice-3.ensures.value c.self.inside.sized.closed c.self.inside.sized.odds c.solve_touched.new.system c.in_ok-slack.slack c.in_ok-slack.ensures) in
    let slip = c.args.slip.now.number in
    let some = any_listed s.erased _ (sym c.list.ensures.lists) (ap (λ n. eqb n 0) (sym c.list.new.list.ok.0) ∙ sym c.is_empty.ensures ∙ c.if-is_empty.false) in
    let shown : eqb slip s.number ≡ true = ap (λ (t : Standing). eqb slip t.state.number) c.self.view_is ∙ sym c.if-not-shown.ensures in
    let b = c.finish_each.new.self in
    let z = expand bits s.erased c.least.result.now in
    let done : on_board b s ≡ finish (code x) s.erased z s = c.finish_each.ensures.does s.erased x.sized.erased (h.unknowns ∙ sym c.unknowns.ensures) s in
    let after : State = with_counts (on_board b s) s.peeled s.pruned (s.chosen + c.in-Some.slack) in
    subst (λ (t : Standing). ◌≡◌ {A = Result (Unit {0}) Refusal × State} (Ok tt, after) (sweep (code t) t.state slip)) c.self.view_is
    (ap (λ (u : State). (Ok tt, u))
    (chooses (code x) s.erased z (sweep_from (code x) s) s (on_board b s) c.in-Some.slack h.found.2 done
    ∙ ap (λ l. choose (code x) s.erased (expand bits s.erased l) (sweep_from (code x) s) s) c.least.ensures)
    ∙ of_right (code x) s slip c.if-self.false some h.few _ h.found.0 h.found.1 shown)
