use Rattle.std.proofs.Common.{◌≡◌, ℕ, ◌+◌, ◌≤◌, false, true, eqb, List, set, vec_items, Some, None, Err, Ok, Option, Result, sym, refl, ap, ap₂, ◌∙◌, subst, arith}
use Rattle.std.proofs.lemmas.Result.{err_from_is_err_and}
use Rattle.terms.specs.declared.refusal.Refusal.{Refusal}
use Rattle.terms.specs.declared.refusal.Refusal.TheVariants.{NoSolution, WrongSlip}
use Rattle.sets.specs.Sets.{size}
use Rattle.sets.proofs.Sizes.{size_within}
use Rattle.meaning.specs.Meaning.{qubits}
use Rattle.linear.specs.Field.{bits}
use Rattle.linear.specs.Compress.{expand}
use Rattle.rules.specs.declared.answers.Cluster.{Cluster}
use Rattle.rules.specs.declared.answers.Cluster.TheVariants.{Shelved, Flipped}
use Rattle.rules.specs.States.{State, finish, voided}
use Rattle.rules.specs.Clusters.{cluster}
use Rattle.rules.specs.Moves.{solve_from}
use Rattle.rules.specs.Calls.{solve, choose}
use Rattle.table.specs.OfTable.{meaning_of}
use Rattle.table.specs.declared.Table.{Table}
use Rattle.table.specs.Stands.{table_sound}
use Rattle.upkeep.proofs.Every.{room_for_all}
use Rattle.upkeep.proofs.Finish.{total, with_counts}
use Rattle.trial.specs.Boards.{on_board}
use Rattle.trial.specs.Clusters.{IsFree}
use Rattle.trial.specs.Standing.{Standing, state_of, shelf_of}
use Rattle.trial.specs.Seen.{standing_of}
use Rattle.trial.proofs.Done.{code, still_sized, still_equipped}
use Rattle.trial.proofs.Sweeps.{none_past, chooses}
use Rattle.trial.proofs.Puts.{open_check, is_put, shelves, sized_put, equipped_put}
use Rattle.trial.proofs.Solves.{barred, of_none, of_wrong, of_flipped, of_shelved, refused, taken, long_cluster, erased_cluster, slack_fits}
use Rattle.trial.proofs.trial.Trial.solve.Goals as goal

pub returns-in_err-finding-clause-does : goal.returns-in_err-finding-clause-does
returns-in_err-finding-clause-does c =
    let x = standing_of c.self.inside in
    let s = x.state in
    let slip = c.args.slip.now.number in
    let q = c.args.qubit in
    let l = c.args.scratch.now in
    let p = err_from_is_err_and c.from_residual-in_err-finding.result c.from_residual-in_err-finding.ensures.1 in
    let f = refused c.self.inside q l c.find.new.walker c.find.new.system _ c.as_slice-closed.ensures.value c.if-self.false _ c.in_err-finding.ensures.found in
    subst (λ (t : Standing). ◌≡◌ {A = Result Cluster Refusal × State × List ℕ} (c.from_residual-in_err-finding.result, s, c.find.new.scratch) (solve (code t) t.state slip q l)) c.self.view_is
    (ap₂ (λ (r : Result Cluster Refusal) (m : List ℕ). (r, s, m)) p.1 c.find.ensures.scratch ∙ barred (code x) s slip q l p.0 (ap (λ (y : Refusal). Some y) p.2 ∙ f))

pub returns-in_default-clause-does : goal.returns-in_default-clause-does
returns-in_default-clause-does c =
    let x = standing_of c.self.inside in
    let s = x.state in
    let slip = c.args.slip.now.number in
    let q = c.args.qubit in
    let l = c.args.scratch.now in
    let k = taken c.self.inside q l c.find.new.walker c.find.new.system _ c.as_slice-closed.ensures.value c.if-self.false c.in_ok-finding.finding None c.in_default.is c.in_ok-finding.ensures.found in
    subst (λ (t : Standing). ◌≡◌ {A = Result Cluster Refusal × State × List ℕ} (Err NoSolution, voided s, c.find.new.scratch) (solve (code t) t.state slip q l)) c.self.view_is
    (ap (λ (m : List ℕ). (Err NoSolution, voided s, m)) c.find.ensures.scratch ∙ of_none (code x) s slip q l k.0 k.1.found)

pub returns-then-not-shown-clause-does : goal.returns-then-not-shown-clause-does
returns-then-not-shown-clause-does c =
    let x = standing_of c.self.inside in
    let s = x.state in
    let slip = c.args.slip.now.number in
    let q = c.args.qubit in
    let l = c.args.scratch.now in
    let k = taken c.self.inside q l c.find.new.walker c.find.new.system _ c.as_slice-closed.ensures.value c.if-self.false c.in_ok-finding.finding (Some c.in-Some.finding) c.in-Some.is c.in_ok-finding.ensures.found in
    let f = k.1.found.0.1 in
    let other : eqb slip s.number ≡ false = ap (λ (t : Standing). eqb slip t.state.number) c.self.view_is ∙ sym c.if-not-shown.ensures in
    subst (λ (t : Standing). ◌≡◌ {A = Result Cluster Refusal × State × List ℕ} (Err WrongSlip, s, c.find.new.scratch) (solve (code t) t.state slip q l)) c.self.view_is
    (ap (λ (m : List ℕ). (Err WrongSlip, s, m)) c.find.ensures.scratch ∙ of_wrong (code x) s slip q l k.0 _ f.0 f.1 other)

pub finish_each-requires : goal.finish_each-requires
finish_each-requires c =
    let x = standing_of c.self.inside in
    let s = x.state in
    let slip = c.args.slip.now.number in
    let q = c.args.qubit in
    let l = c.args.scratch.now in
    let k = taken c.self.inside q l c.find.new.walker c.find.new.system _ c.as_slice-closed.ensures.value c.if-self.false c.in_ok-finding.finding (Some c.in-Some.finding) c.in-Some.is c.in_ok-finding.ensures.found in
    none_past (cluster (code x) s q) _ (k.1.found.0.0 ∙ sym c.unknowns.ensures) (qubits (code x)) (long_cluster c.self.inside q l c.find.new.walker c.find.new.system k.1.start)

pub overflow_add-self : goal.overflow_add-self
overflow_add-self c =
    let x = standing_of c.self.inside in
    let s = x.state in
    let slip = c.args.slip.now.number in
    let q = c.args.qubit in
    let l = c.args.scratch.now in
    let k = taken c.self.inside q l c.find.new.walker c.find.new.system _ c.as_slice-closed.ensures.value c.if-self.false c.in_ok-finding.finding (Some c.in-Some.finding) c.in-Some.is c.in_ok-finding.ensures.found in
    let less : c.in-Some.finding.slack ≤ size (cluster (code x) s q) = slack_fits c.self.inside q l c.find.new.walker c.find.new.system k.1.start c.in-Some.finding.slack k.1.found.0.1.2 in
    let long_k = long_cluster c.self.inside q l c.find.new.walker c.find.new.system k.1.start in
    let inside = erased_cluster c.self.inside q l c.find.new.walker c.find.new.system k.1.start in
    omega (arith, less, size_within (cluster (code x) s q) s.erased (long_k ∙ sym x.sized.erased) inside, x.sized.few, (table_sound x.table).few_qubits)

pub invariant_of-self-inside-in_default-free : goal.invariant_of-self-inside-in_default-free
invariant_of-self-inside-in_default-free c =
    let x = standing_of c.self.inside in
    let s = x.state in
    let slip = c.args.slip.now.number in
    let q = c.args.qubit in
    let l = c.args.scratch.now in
    let k = taken c.self.inside q l c.find.new.walker c.find.new.system _ c.as_slice-closed.ensures.value c.if-self.false c.in_ok-finding.finding (Some c.in-Some.finding) c.in-Some.is c.in_ok-finding.ensures.found in
    let less : c.in-Some.finding.slack ≤ size (cluster (code x) s q) = slack_fits c.self.inside q l c.find.new.walker c.find.new.system k.1.start c.in-Some.finding.slack k.1.found.0.1.2 in
    let long_k = long_cluster c.self.inside q l c.find.new.walker c.find.new.system k.1.start in
    let inside = erased_cluster c.self.inside q l c.find.new.walker c.find.new.system k.1.start in
    let b = c.finish_each.new.self in
    let K = cluster (code x) s q in
    let z = expand bits K c.least.result.now in
    let done : on_board b s ≡ finish (code x) K z s = c.finish_each.ensures.does K long_k (k.1.found.0.0 ∙ sym c.unknowns.ensures) s in
    let i = still_sized c.self.inside b K z c.finish_each.ensures.table done in
    let n = ap (λ (t : Table). qubits (meaning_of t)) c.finish_each.ensures.table in (
      record { erased = i.erased; shelved = i.shelved; flipped = i.flipped; closed = i.closed; odds = i.odds; waiting = i.waiting; few = omega (arith, room_for_all (code x) s K z c.in-Some.finding.slack (x.sized.erased ∙ sym long_k) inside less, ap total done, x.sized.few, n) },
      (still_equipped _ _ _ _ _ _ _ c.finish_each.ensures.table refl c.find.ensures.walks c.self.inside.equipped, tt),
    )

pub returns-in_default-free-clause-does : goal.returns-in_default-free-clause-does
returns-in_default-free-clause-does c =
    let x = standing_of c.self.inside in
    let s = x.state in
    let slip = c.args.slip.now.number in
    let q = c.args.qubit in
    let l = c.args.scratch.now in
    let k = taken c.self.inside q l c.find.new.walker c.find.new.system _ c.as_slice-closed.ensures.value c.if-self.false c.in_ok-finding.finding (Some c.in-Some.finding) c.in-Some.is c.in_ok-finding.ensures.found in
    let long_k = long_cluster c.self.inside q l c.find.new.walker c.find.new.system k.1.start in
    let b = c.finish_each.new.self in
    let K = cluster (code x) s q in
    let z = expand bits K c.least.result.now in
    let f = k.1.found.0.1 in
    let frozen = subst (λ (o : Option ℕ). IsFree (code x) s q o) c.in_default-free.is k.1.found.1 in
    let shown : eqb slip s.number ≡ true = ap (λ (t : Standing). eqb slip t.state.number) c.self.view_is ∙ sym c.if-not-shown.ensures in
    let done : on_board b s ≡ finish (code x) K z s = c.finish_each.ensures.does K long_k (k.1.found.0.0 ∙ sym c.unknowns.ensures) s in
    let after : State = with_counts (on_board b s) s.peeled s.pruned (s.chosen + c.in-Some.finding.slack) in
    let chosen : after ≡ choose (code x) K _ (solve_from (code x) s q) s = chooses (code x) K z (solve_from (code x) s q) s (on_board b s) c.in-Some.finding.slack f.2 done ∙ ap (λ y. choose (code x) K (expand bits K y) (solve_from (code x) s q) s) c.least.ensures in
    subst (λ (t : Standing). ◌≡◌ {A = Result Cluster Refusal × State × List ℕ} (Ok Flipped, after, c.find.new.scratch) (solve (code t) t.state slip q l)) c.self.view_is
    (ap₂ (λ (u : State) (m : List ℕ). (Ok Flipped, u, m)) chosen c.find.ensures.scratch ∙ of_flipped (code x) s slip q l k.0 _ f.0 f.1 shown frozen)

pub shelve_each-requires : goal.shelve_each-requires
shelve_each-requires c =
    let x = standing_of c.self.inside in
    let s = x.state in
    let slip = c.args.slip.now.number in
    let q = c.args.qubit in
    let l = c.args.scratch.now in
    let k = taken c.self.inside q l c.find.new.walker c.find.new.system _ c.as_slice-closed.ensures.value c.if-self.false c.in_ok-finding.finding (Some c.in-Some.finding) c.in-Some.is c.in_ok-finding.ensures.found in
    none_past (cluster (code x) s q) _ (sym (c.members.ensures ∙ k.1.members)) (qubits (code x)) (long_cluster c.self.inside q l c.find.new.walker c.find.new.system k.1.start)

pub index_mut-requires : goal.index_mut-requires
index_mut-requires c =
    let x = standing_of c.self.inside in
    let s = x.state in
    let slip = c.args.slip.now.number in
    let q = c.args.qubit in
    let l = c.args.scratch.now in
    let k = taken c.self.inside q l c.find.new.walker c.find.new.system _ c.as_slice-closed.ensures.value c.if-self.false c.in_ok-finding.finding (Some c.in-Some.finding) c.in-Some.is c.in_ok-finding.ensures.found in
    let way = subst (λ (o : Option ℕ). IsFree (code x) s q o) c.in-Some-free.is k.1.found.1 in
    let check = open_check (code x) s x.sized.closed q (cluster (code x) s q) c.in-Some-free.check way.1 in
    omega (arith, check.0, x.sized.closed, c.self.inside.closed.ok.0)

pub invariant_of-self-inside-2 : goal.invariant_of-self-inside-2
invariant_of-self-inside-2 c =
    let x = standing_of c.self.inside in
    let s = x.state in
    let slip = c.args.slip.now.number in
    let q = c.args.qubit in
    let l = c.args.scratch.now in
    let k = taken c.self.inside q l c.find.new.walker c.find.new.system _ c.as_slice-closed.ensures.value c.if-self.false c.in_ok-finding.finding (Some c.in-Some.finding) c.in-Some.is c.in_ok-finding.ensures.found in
    let long_k = long_cluster c.self.inside q l c.find.new.walker c.find.new.system k.1.start in
    let inside = erased_cluster c.self.inside q l c.find.new.walker c.find.new.system k.1.start in
    let K = cluster (code x) s q in
    let way = subst (λ (o : Option ℕ). IsFree (code x) s q o) c.in-Some-free.is k.1.found.1 in
    let check = open_check (code x) s x.sized.closed q K c.in-Some-free.check way.1 in
    let members = c.members-2.ensures ∙ k.1.members in
    let aside = c.shelve_each.ensures.does K long_k (sym (c.members.ensures ∙ k.1.members)) in
    let put = is_put c.self.inside K c.in-Some-free.check long_k k.1.few inside check.0 check.1 c.members-2.result.now members _ c.put.new.self c.put.ensures.test c.put.ensures.entries in (
      sized_put c.self.inside K c.in-Some-free.check long_k k.1.few inside check.0 check.1 c.members-2.result.now members c.put.new.self put c.shelve_each.new.self c.shelve_each.ensures.table aside,
      (equipped_put c.self.inside K c.in-Some-free.check long_k k.1.few inside check.0 check.1 c.members-2.result.now members c.put.new.self put c.shelve_each.new.self c.shelve_each.ensures.table aside _ _ refl c.find.ensures.walks, tt),
    )

pub returns-clause-does : goal.returns-clause-does
returns-clause-does c =
    let x = standing_of c.self.inside in
    let s = x.state in
    let slip = c.args.slip.now.number in
    let q = c.args.qubit in
    let l = c.args.scratch.now in
    let k = taken c.self.inside q l c.find.new.walker c.find.new.system _ c.as_slice-closed.ensures.value c.if-self.false c.in_ok-finding.finding (Some c.in-Some.finding) c.in-Some.is c.in_ok-finding.ensures.found in
    let long_k = long_cluster c.self.inside q l c.find.new.walker c.find.new.system k.1.start in
    let inside = erased_cluster c.self.inside q l c.find.new.walker c.find.new.system k.1.start in
    let K = cluster (code x) s q in
    let way = subst (λ (o : Option ℕ). IsFree (code x) s q o) c.in-Some-free.is k.1.found.1 in
    let check = open_check (code x) s x.sized.closed q K c.in-Some-free.check way.1 in
    let members = c.members-2.ensures ∙ k.1.members in
    let aside = c.shelve_each.ensures.does K long_k (sym (c.members.ensures ∙ k.1.members)) in
    let put = is_put c.self.inside K c.in-Some-free.check long_k k.1.few inside check.0 check.1 c.members-2.result.now members _ c.put.new.self c.put.ensures.test c.put.ensures.entries in
    let f = k.1.found.0.1 in
    let shown : eqb slip s.number ≡ true = ap (λ (t : Standing). eqb slip t.state.number) c.self.view_is ∙ sym c.if-not-shown.ensures in
    let b = c.shelve_each.new.self in
    let after : State = state_of (vec_items b.erasures.status) (vec_items b.flipped) (set (vec_items c.self.inside.closed) c.in-Some-free.check true) (vec_items b.odd) (shelf_of c.put.new.self) s.void s.number s.peeled s.pruned s.chosen in
    let shelved = shelves c.self.inside K c.in-Some-free.check long_k k.1.few inside check.0 check.1 c.members-2.result.now members c.put.new.self put c.shelve_each.new.self c.shelve_each.ensures.table aside in
    subst (λ (t : Standing). ◌≡◌ {A = Result Cluster Refusal × State × List ℕ} (Ok Shelved, after, c.find.new.scratch) (solve (code t) t.state slip q l)) c.self.view_is
    (ap₂ (λ (u : State) (m : List ℕ). (Ok Shelved, u, m)) shelved c.find.ensures.scratch ∙ of_shelved (code x) s slip q l k.0 _ f.0 f.1 shown c.in-Some-free.check way.2 way.0)
