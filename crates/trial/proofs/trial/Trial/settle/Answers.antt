use Rattle.std.proofs.Common.{◌≡◌, ℕ, ◌+◌, ◌<◌, ◌≤◌, true, false, eqb, [], length, set, Some, Ok, Err, Option, Result, vec_items, sym, refl, ap, ◌∙◌, subst, arith, length-set}
use Rattle.std.proofs.lemmas.List.{set-set, set-get_or, get_or_read}
use Rattle.terms.specs.declared.refusal.Refusal.{Refusal}
use Rattle.terms.specs.declared.refusal.Refusal.TheVariants.{StillErased, ShelfEmpty, NoSolution, WrongSlip}
use Rattle.sets.specs.Sets.{size}
use Rattle.sets.proofs.Sizes.{size_less}
use Rattle.meaning.specs.Meaning.{qubits}
use Rattle.linear.specs.Field.{bits}
use Rattle.linear.specs.Compress.{expand}
use Rattle.rules.specs.States.{State, finish, reopen}
use Rattle.rules.specs.Moves.{settle_from}
use Rattle.rules.specs.Clusters.{touched}
use Rattle.rules.specs.Calls.{settle, choose}
use Rattle.rules.proofs.Counts.{slack_below}
use Rattle.table.specs.OfTable.{meaning_of}
use Rattle.table.specs.declared.Table.{Table}
use Rattle.table.specs.Stands.{table_sound}
use Rattle.upkeep.specs.Counts.{shelf_size}
use Rattle.upkeep.proofs.Finish.{total, with_counts}
use Rattle.shelf.specs.Shelving.{entries_of}
use Rattle.shelf.specs.Lent.{told}
use Rattle.systems.specs.Stated.{least_of}
use Rattle.systems.specs.Told.{Found, spread}
use Rattle.trial.specs.Boards.{on_board}
use Rattle.trial.specs.Standing.{Standing, shelf_of}
use Rattle.trial.specs.Seen.{standing_of}
use Rattle.trial.specs.Solving.{SolvedOver}
use Rattle.trial.proofs.Done.{code, long, still_equipped}
use Rattle.trial.proofs.Sweeps.{any_listed, none_listed, none_past, no_slack, chooses}
use Rattle.trial.proofs.Settles.{of_erased, of_empty, of_wrong, of_none, of_right, no_top, entry, others, newest, still_told, solved, never_many}
use Rattle.trial.proofs.trial.Trial.settle.Goals as goal

pub returns-then-not-is_empty-clause-does : goal.returns-then-not-is_empty-clause-does
returns-then-not-is_empty-clause-does c =
    let x = standing_of c.self.inside in
    let s = x.state in
    let slip = c.args.slip.now.number in
    subst (λ (t : Standing). ◌≡◌ {A = Result (Unit {0}) Refusal × State} (Err StillErased, s) (settle (code t) t.state slip)) c.self.view_is
    (of_erased (code x) s slip c.if-self.false (any_listed s.erased _ (sym c.list.ensures.lists) (ap (λ n. eqb n 0) (sym c.list.new.list.ok.0) ∙ sym c.is_empty.ensures ∙ c.if-not-is_empty.true)))

pub returns-in_default-clause-does : goal.returns-in_default-clause-does
returns-in_default-clause-does c =
    let x = standing_of c.self.inside in
    let s = x.state in
    let slip = c.args.slip.now.number in
    let none = none_listed s.erased _ (sym c.list.ensures.lists) (ap (λ n. eqb n 0) (sym c.list.new.list.ok.0) ∙ sym c.is_empty.ensures ∙ c.if-not-is_empty.false) in
    subst (λ (t : Standing). ◌≡◌ {A = Result (Unit {0}) Refusal × State} (Err ShelfEmpty, s) (settle (code t) t.state slip)) c.self.view_is
    (of_empty (code x) s slip c.if-self.false none (ap (λ l. eqb (length (entries_of c.self.inside.shelf.qubits l)) 0) (no_top c.self.inside.shelf.entries c.in_default.ensures)))

pub returns-then-not-shown-clause-does : goal.returns-then-not-shown-clause-does
returns-then-not-shown-clause-does c =
    let x = standing_of c.self.inside in
    let s = x.state in
    let slip = c.args.slip.now.number in
    let none = none_listed s.erased _ (sym c.list.ensures.lists) (ap (λ n. eqb n 0) (sym c.list.new.list.ok.0) ∙ sym c.is_empty.ensures ∙ c.if-not-is_empty.false) in
    let e = told c.in-Some.entry in
    let E = entry c.self.inside e in
    let l = others c.self.inside in
    let t = newest c.self.inside e c.in-Some.ensures in
    subst (λ (t : Standing). ◌≡◌ {A = Result (Unit {0}) Refusal × State} (Err WrongSlip, s) (settle (code t) t.state slip)) c.self.view_is
    (of_wrong (code x) s slip c.if-self.false none t.some (ap (λ (t : Standing). eqb slip t.state.number) c.self.view_is ∙ sym c.if-not-shown.ensures))

pub index-was-requires : goal.index-was-requires
index-was-requires c =
    let e = told c.in-Some.entry in
    let E = entry c.self.inside e in
    let l = others c.self.inside in
    let t = newest c.self.inside e c.in-Some.ensures in
    omega (arith, t.low, c.self.inside.closed.ok.0)

pub index_mut-requires : goal.index_mut-requires
index_mut-requires c =
    let e = told c.in-Some.entry in
    let E = entry c.self.inside e in
    let l = others c.self.inside in
    let t = newest c.self.inside e c.in-Some.ensures in
    omega (arith, t.low, c.self.inside.closed.ok.0)

pub index_mut-requires-in_default-slack : goal.index_mut-requires-in_default-slack
index_mut-requires-in_default-slack c =
    let e = told c.in-Some.entry in
    let E = entry c.self.inside e in
    let l = others c.self.inside in
    let t = newest c.self.inside e c.in-Some.ensures in
    omega (arith, t.low, c.self.inside.closed.ok.0)

pub invariant_of-self-inside-in-Break-1 : goal.invariant_of-self-inside-in-Break-1
invariant_of-self-inside-in-Break-1 c =
    let x = standing_of c.self.inside in
    let s = x.state in
    let e = told c.in-Some.entry in
    let E = entry c.self.inside e in
    let l = others c.self.inside in
    let t = newest c.self.inside e c.in-Some.ensures in
    absurd (never_many (code x) s E l _ _ _ t.rising c.as_slice.ensures.value c.as_slice-2.ensures.value c.self.inside.sized.closed c.self.inside.sized.odds c.solve_touched.new.system _ c.in_err-slack.ensures t.few)

pub returns-in_err-slack-clause-does : goal.returns-in_err-slack-clause-does
returns-in_err-slack-clause-does c =
    let x = standing_of c.self.inside in
    let s = x.state in
    let e = told c.in-Some.entry in
    let E = entry c.self.inside e in
    let l = others c.self.inside in
    let t = newest c.self.inside e c.in-Some.ensures in
    absurd (never_many (code x) s E l _ _ _ t.rising c.as_slice.ensures.value c.as_slice-2.ensures.value c.self.inside.sized.closed c.self.inside.sized.odds c.solve_touched.new.system _ c.in_err-slack.ensures t.few)

pub invariant_of-self-inside-in_default-slack : goal.invariant_of-self-inside-in_default-slack
invariant_of-self-inside-in_default-slack c =
    let x = standing_of c.self.inside in
    let s = x.state in
    let e = told c.in-Some.entry in
    let E = entry c.self.inside e in
    let l = others c.self.inside in
    let t = newest c.self.inside e c.in-Some.ensures in
    let low : E.check < length (vec_items c.self.inside.closed) = t.low in
    let was = get_or_read s.closed E.check c.index-was.result.now low c.index-was.ensures false in
    let back : set (set s.closed E.check false) E.check c.index-was.result.now ≡ s.closed = set-set s.closed E.check false c.index-was.result.now ∙ ap (set s.closed E.check) was ∙ set-get_or s.closed E.check false in
    let i = c.self.inside.sized in
    (record { erased = i.erased; shelved = i.shelved; flipped = i.flipped; closed = ap length back ∙ i.closed; odds = i.odds; few = i.few; waiting = omega (arith, i.waiting, ap size back) }, (still_equipped _ _ _ _ _ _ _ refl c.list.ensures.capacity refl c.self.inside.equipped, tt))

pub returns-in_default-slack-clause-does : goal.returns-in_default-slack-clause-does
returns-in_default-slack-clause-does c =
    let x = standing_of c.self.inside in
    let s = x.state in
    let slip = c.args.slip.now.number in
    let none = none_listed s.erased _ (sym c.list.ensures.lists) (ap (λ n. eqb n 0) (sym c.list.new.list.ok.0) ∙ sym c.is_empty.ensures ∙ c.if-not-is_empty.false) in
    let e = told c.in-Some.entry in
    let E = entry c.self.inside e in
    let l = others c.self.inside in
    let t = newest c.self.inside e c.in-Some.ensures in
    let shown : eqb slip s.number ≡ true = ap (λ (t : Standing). eqb slip t.state.number) c.self.view_is ∙ sym c.if-not-shown.ensures in
    let h : SolvedOver c.solve_touched.new.system E.members (settle_from (code x) s E l) c.in_ok-slack.slack =
    solved (code x) s E l _ _ _ t.rising (c.as_slice.ensures.value) c.as_slice-2.ensures.value c.self.inside.sized.closed c.self.inside.sized.odds c.solve_touched.new.system c.in_ok-slack.slack c.in_ok-slack.ensures in
    let low : E.check < length (vec_items c.self.inside.closed) = t.low in
    let was = get_or_read s.closed E.check c.index-was.result.now low c.index-was.ensures false in
    let back : set (set s.closed E.check false) E.check c.index-was.result.now ≡ s.closed = set-set s.closed E.check false c.index-was.result.now ∙ ap (set s.closed E.check) was ∙ set-get_or s.closed E.check false in
    let nothing : settle_from (code x) s E l ≡ [] =
    subst (λ (o : Option ℕ). Found (settle_from (code x) s E l) o (spread E.members (least_of c.solve_touched.new.system))) (no_slack c.in_ok-slack.slack c.in_default-slack.not-Some) h.1 in
    let same : ◌≡◌ {A = State} _ s = λ j.
    record {
      erased = s.erased;
      shelved = s.shelved;
      flipped = s.flipped;
      closed = back j;
      odds = s.odds;
      shelf = s.shelf;
      void = s.void;
      number = s.number;
      peeled = s.peeled;
      pruned = s.pruned;
      chosen = s.chosen;
    } in
    ap (λ (u : State). (Err NoSolution, u)) same ∙ subst (λ (t : Standing). ◌≡◌ {A = Result (Unit {0}) Refusal × State} (Err NoSolution, s) (settle (code t) t.state slip)) c.self.view_is
    (of_none (code x) s slip c.if-self.false none t.some shown E l t.on_top nothing)

pub finish_each-requires : goal.finish_each-requires
finish_each-requires c =
    let x = standing_of c.self.inside in
    let s = x.state in
    let e = told c.in-Some.entry in
    let E = entry c.self.inside e in
    let l = others c.self.inside in
    let t = newest c.self.inside e c.in-Some.ensures in
    let h : SolvedOver c.solve_touched.new.system E.members (settle_from (code x) s E l) c.in_ok-slack.slack =
    solved (code x) s E l _ _ _ t.rising (c.as_slice.ensures.value) c.as_slice-2.ensures.value c.self.inside.sized.closed c.self.inside.sized.odds c.solve_touched.new.system c.in_ok-slack.slack c.in_ok-slack.ensures in
    none_past E.members _ (h.0 ∙ sym c.unknowns.ensures) (qubits (code x)) t.long

pub overflow_add-self : goal.overflow_add-self
overflow_add-self c =
    let x = standing_of c.self.inside in
    let s = x.state in
    let e = told c.in-Some.entry in
    let E = entry c.self.inside e in
    let l = others c.self.inside in
    let t = newest c.self.inside e c.in-Some.ensures in
    let h : SolvedOver c.solve_touched.new.system E.members (settle_from (code x) s E l) c.in_ok-slack.slack =
    solved (code x) s E l _ _ _ t.rising (c.as_slice.ensures.value) c.as_slice-2.ensures.value c.self.inside.sized.closed c.self.inside.sized.odds c.solve_touched.new.system c.in_ok-slack.slack c.in_ok-slack.ensures in
    let f : Found (settle_from (code x) s E l) (Some c.in-Some-slack.slack) (spread E.members (least_of c.solve_touched.new.system)) =
    subst (λ (o : Option ℕ). Found (settle_from (code x) s E l) o (spread E.members (least_of c.solve_touched.new.system))) c.in-Some-slack.is h.1 in
    let less : c.in-Some-slack.slack ≤ size E.members = omega (arith, slack_below (code x).checks E.members (touched (code x) (reopen E.check l s) E.members) s.odds, f.2) in
    omega (arith, less, t.left, x.sized.few, (table_sound x.table).few_qubits)

pub invariant_of-self-inside-2 : goal.invariant_of-self-inside-2
invariant_of-self-inside-2 c =
    let x = standing_of c.self.inside in
    let s = x.state in
    let e = told c.in-Some.entry in
    let E = entry c.self.inside e in
    let l = others c.self.inside in
    let t = newest c.self.inside e c.in-Some.ensures in
    let h : SolvedOver c.solve_touched.new.system E.members (settle_from (code x) s E l) c.in_ok-slack.slack =
    solved (code x) s E l _ _ _ t.rising (c.as_slice.ensures.value) c.as_slice-2.ensures.value c.self.inside.sized.closed c.self.inside.sized.odds c.solve_touched.new.system c.in_ok-slack.slack c.in_ok-slack.ensures in
    let f : Found (settle_from (code x) s E l) (Some c.in-Some-slack.slack) (spread E.members (least_of c.solve_touched.new.system)) =
    subst (λ (o : Option ℕ). Found (settle_from (code x) s E l) o (spread E.members (least_of c.solve_touched.new.system))) c.in-Some-slack.is h.1 in
    let less : c.in-Some-slack.slack ≤ size E.members = omega (arith, slack_below (code x).checks E.members (touched (code x) (reopen E.check l s) E.members) s.odds, f.2) in
    let b = c.finish_each.new.self in
    let r : State = reopen E.check l s in
    let z = expand bits E.members c.least.result.now in
    let done : on_board b r ≡ finish (code x) E.members z r = c.finish_each.ensures.does E.members t.long (h.0 ∙ sym c.unknowns.ensures) r in
    let n = ap (λ (t : Table). qubits (meaning_of t)) c.finish_each.ensures.table in
    let m = ap (λ (t : Table). length (meaning_of t).checks) c.finish_each.ensures.table in
    let gone : shelf_of c.drop_newest.new.self ≡ l = ap shelf_of c.drop_newest.ensures in (
      record {
        erased = (long b r).erased;
        shelved = (long b r).shelved;
        flipped = b.flips;
        closed = length-set s.closed E.check false ∙ x.sized.closed ∙ sym m;
        odds = b.odds;
        few = omega (arith, ap total done, size_less s.erased E.members, less, t.left, x.sized.few, ap shelf_size gone, n);
        waiting = omega (arith, t.waiting, ap length gone);
      },
      (still_told c.self.inside _ c.drop_newest.ensures _ _ c.finish_each.ensures.table c.list.ensures.capacity, tt),
    )

pub returns-clause-does : goal.returns-clause-does
returns-clause-does c =
    let x = standing_of c.self.inside in
    let s = x.state in
    let slip = c.args.slip.now.number in
    let none = none_listed s.erased _ (sym c.list.ensures.lists) (ap (λ n. eqb n 0) (sym c.list.new.list.ok.0) ∙ sym c.is_empty.ensures ∙ c.if-not-is_empty.false) in
    let e = told c.in-Some.entry in
    let E = entry c.self.inside e in
    let l = others c.self.inside in
    let t = newest c.self.inside e c.in-Some.ensures in
    let shown : eqb slip s.number ≡ true = ap (λ (t : Standing). eqb slip t.state.number) c.self.view_is ∙ sym c.if-not-shown.ensures in
    let h : SolvedOver c.solve_touched.new.system E.members (settle_from (code x) s E l) c.in_ok-slack.slack =
    solved (code x) s E l _ _ _ t.rising (c.as_slice.ensures.value) c.as_slice-2.ensures.value c.self.inside.sized.closed c.self.inside.sized.odds c.solve_touched.new.system c.in_ok-slack.slack c.in_ok-slack.ensures in
    let f : Found (settle_from (code x) s E l) (Some c.in-Some-slack.slack) (spread E.members (least_of c.solve_touched.new.system)) =
    subst (λ (o : Option ℕ). Found (settle_from (code x) s E l) o (spread E.members (least_of c.solve_touched.new.system))) c.in-Some-slack.is h.1 in
    let less : c.in-Some-slack.slack ≤ size E.members = omega (arith, slack_below (code x).checks E.members (touched (code x) (reopen E.check l s) E.members) s.odds, f.2) in
    let b = c.finish_each.new.self in
    let r : State = reopen E.check l s in
    let z = expand bits E.members c.least.result.now in
    let done : on_board b r ≡ finish (code x) E.members z r = c.finish_each.ensures.does E.members t.long (h.0 ∙ sym c.unknowns.ensures) r in
    let gone : shelf_of c.drop_newest.new.self ≡ l = ap shelf_of c.drop_newest.ensures in
    let after : State = with_counts (on_board b (reopen E.check (shelf_of c.drop_newest.new.self) s)) s.peeled s.pruned (s.chosen + c.in-Some-slack.slack) in
    subst (λ (t : Standing). ◌≡◌ {A = Result (Unit {0}) Refusal × State} (Ok tt, after) (settle (code t) t.state slip)) c.self.view_is
    (ap (λ (u : State). (Ok tt, u))
    (ap (λ k. with_counts (on_board b (reopen E.check k s)) s.peeled s.pruned (s.chosen + c.in-Some-slack.slack)) gone
    ∙ chooses (code x) E.members z (settle_from (code x) s E l) r (on_board b r) c.in-Some-slack.slack f.2 done
    ∙ ap (λ t. choose (code x) E.members (expand bits E.members t) (settle_from (code x) s E l) r) c.least.ensures)
    ∙ of_right (code x) s slip c.if-self.false none t.some shown E l t.on_top _ f.0 f.1)
