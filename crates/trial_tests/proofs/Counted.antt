-- What a close and an opening do to the count of slips that are out, and that the calls on a trial keep its number.
use Rattle.std.proofs.Common.{◌≡◌, ℕ, ◌+◌, ◌-◌, ◌<◌, Bool, true, false, cond, not, eqb, List, [], ◌∷◌, Some, Ok, Err, Option, Result, get_or, set, sym, refl, ap, ◌∙◌, subst, arith, eqb-true, eq-eqb}
use Rattle.std.proofs.Math.Seq.{map-set_same}
use Rattle.std.proofs.lemmas.Bool.{eqb-false}
use Rattle.terms.specs.declared.refusal.Refusal.{Refusal}
use Rattle.terms.specs.declared.refusal.Refusal.TheVariants.{WrongSlip}
use Rattle.meaning.specs.Meaning.{Meaning}
use Rattle.sets.specs.Sets.{lowest}
use Rattle.rules.specs.declared.answers.Cluster.{Cluster}
use Rattle.rules.specs.declared.answers.Ending.{Ending}
use Rattle.rules.specs.Run.{run}
use Rattle.running.proofs.Numbered.{run_number}
use Rattle.rules.specs.declared.answers.Cluster.TheVariants.{Shelved, Flipped}
use Rattle.rules.specs.declared.answers.Outcome.{Outcome}
use Rattle.rules.specs.declared.answers.Outcome.TheVariants.{Solved, Nothing, Unfinished}
use Rattle.rules.specs.declared.answers.Verdict.{Verdict}
use Rattle.rules.specs.Reports.{report}
use Rattle.rules.specs.States.{Entry, State, opening, shelve, reopen}
use Rattle.rules.specs.Clusters.{cluster, free}
use Rattle.rules.specs.Moves.{solve_from, sweep_from, settle_from, connects}
use Rattle.rules.specs.Refusing.{wrong_slip}
use Rattle.rules.specs.Calls.{peel_bars, peel, prune_bars, prune, choose, solve_bars, solve_found, solve, sweep_bars, sweep_found, sweep, settle_bars, settle_found, settle_newest, settle}
use Rattle.rules.specs.Tallies as rules
use Rattle.rules.specs.Companions.{Kept}
use Rattle.rules.proofs.Bars.{guarded, accepted, passed, not_ok}
use Rattle.rules.proofs.Refused.{refusals_keep}
use Rattle.trial.specs.declared.slip.Slip.{Slip}
use Rattle.trial.specs.declared.tally.Tally.{Tally}
use Rattle.trial.specs.declared.trial.Trial.{Trial}
use Rattle.trial.specs.declared.trial.closing.NotClosed.{NotClosed}
use Rattle.trial.specs.declared.trial.opening.Opened.{Opened}
use Rattle.trial.specs.Closing.{closed_of}
use Rattle.trial.specs.Opening.{OpensAs, Opens, opened_of}
use Rattle.trial_tests.specs.Slips.{out, trial_numbers, Own, OpensOne}

-- one more is closed
one_closed : (o : Outcome) (t : rules.Tally) → (rules.closings (rules.counted o t) ≡ rules.closings t + 1) × ((rules.counted o t).opened ≡ t.opened)
one_closed Solved t = (omega arith, refl)
one_closed Nothing t = (omega arith, refl)
one_closed Unfinished t = (omega arith, refl)

module _ (s : State) (n : ℕ) (t u : Tally) where
  abbrev after : Result Verdict Refusal × rules.Tally
  after = (Ok (rules.verdict s), rules.counted (rules.outcome s) t.counts)

  -- an accepted close counts one slip less out
  pub closes_one : (v : Verdict) → closed_of (Ok v) u ≡ rules.close s n t.counts → out u + 1 ≡ out t
  closes_one v e =
      let bars = rules.close_bars s n t.counts in
      let c = accepted bars t.counts after v (sym (ap (λ (x : rules.Closed). x.answer) e)) in
      let p : u.counts ≡ rules.counted (rules.outcome s) t.counts = ap (λ (x : rules.Closed). x.tally) e ∙ ap (λ (r : Result Verdict Refusal × rules.Tally). r.1) (passed bars t.counts after c) in
      let o = one_closed (rules.outcome s) t.counts in
      let a : rules.closings u.counts ≡ rules.closings t.counts + 1 = ap rules.closings p ∙ o.0 in
      let b : t.counts.opened ≡ u.counts.opened = sym (ap (λ (x : rules.Tally). x.opened) p ∙ o.1) in
      let ne : (t.counts.opened ≡ rules.closings t.counts) → ⊥ = eqb-false t.counts.opened (rules.closings t.counts) c.1.0 in
      omega (arith, t.balanced, u.balanced)

  -- a refused one gives the slip back and counts as before; it is refused only for its number, or if none is out
  pub record Refuses (e : NotClosed) : Type 0 where
    pub back : e.slip.number ≡ n
    pub count : out u ≡ out t
    pub why : n ≡ s.number → 0 < out t → ⊥

  pub refuses : (e : NotClosed) → closed_of (Err e) u ≡ rules.close s n t.counts → Refuses e
  refuses e h = go (not (eqb n s.number)) (eqb t.counts.opened (rules.closings t.counts)) refl refl h
    where
      go : (a b : Bool) → not (eqb n s.number) ≡ a → eqb t.counts.opened (rules.closings t.counts) ≡ b
          → closed_of (Err e) u ≡ (let r : Result Verdict Refusal × rules.Tally = cond a (Err WrongSlip, t.counts) (cond b (Err WrongSlip, t.counts) after) in record { answer = r.0; tally = r.1; slip = rules.given_back r.0 n })
          → Refuses e
      go true b ea eb x =
          let i : Some e.slip.number ≡ Some n = ap (λ (y : rules.Closed). y.slip) x in
          record {
            back = cc;
            count = ap (λ (y : rules.Closed). y.tally.opened - rules.closings y.tally) x;
            why = λ h k. let y = ap not (eq-eqb n s.number h) in cc;
          }
      go false true ea eb x =
          let i : Some e.slip.number ≡ Some n = ap (λ (y : rules.Closed). y.slip) x in
          record {
            back = cc;
            count = ap (λ (y : rules.Closed). y.tally.opened - rules.closings y.tally) x;
            why = λ h k. let y : t.counts.opened ≡ rules.closings t.counts = eqb-true t.counts.opened (rules.closings t.counts) eb in absurd (omega arith);
          }
      go false false ea eb x = not_ok e.refusal (rules.verdict s) (ap (λ (y : rules.Closed). y.answer) x)

module _ (M : Meaning) (t u : Tally) (lost odds : List ℕ) where
  abbrev rule : Result rules.Opened Refusal × rules.Tally
  rule = rules.open_trial M t.counts lost odds

  abbrev given : rules.Opened
  given = record { trial = opening M (report M lost odds) (t.counts.opened + 1); slip = t.counts.opened + 1 }

  slip_of : rules.Opened → Result rules.Opened Refusal → ℕ
  slip_of d (Ok o) = o.slip
  slip_of d (Err e) = d.slip

  pub opens_one : (r : Result Opened Refusal) → Opens r t.counts u.counts (rules.open_trial M t.counts lost odds) → OpensOne r (out t) (out u)
  opens_one (Ok o) h =
      let bars = rules.open_bars M t.counts lost odds in
      let p = passed bars t.counts (Ok given, rules.one_more t.counts) (accepted bars t.counts (Ok given, rules.one_more t.counts) (opened_of o) (sym h.0)) in
      let same : ◌≡◌ {A = Result rules.Opened Refusal} (Ok (opened_of o)) (Ok given) = h.0 ∙ ap (λ (r : Result rules.Opened Refusal × rules.Tally). r.0) p in
      let is : opened_of o ≡ given = cc in
      let q : u.counts ≡ rules.one_more t.counts = h.1 ∙ ap (λ (r : Result rules.Opened Refusal × rules.Tally). r.1) p in
      let a : rules.closings u.counts ≡ rules.closings t.counts = ap rules.closings q in
      let b : u.counts.opened ≡ t.counts.opened + 1 = ap (λ (x : rules.Tally). x.opened) q in
      (omega (arith, t.balanced, u.balanced), ap (λ (x : rules.Opened). x.slip) is ∙ sym (ap (λ (x : rules.Opened). x.trial.number) is))
  opens_one (Err e) h = go rule.0 rule.1 ((refusals_keep M given.trial).open_kept t.counts lost odds) h
    where
      go : (told : Result rules.Opened Refusal) (later : rules.Tally) → Kept t.counts (told, later) → OpensAs (Err e) t.counts u.counts told later → out u ≡ out t
      go (Err f) later keep x = ap (λ (y : rules.Tally). y.opened - rules.closings y) (x.1 ∙ keep)
      go (Ok o) later keep x = ap (λ (y : rules.Tally). y.opened - rules.closings y) x.1

-- the calls on a trial keep its number
pub peel_number : (M : Meaning) (t u : Trial) (slip c : ℕ) (r : Result ℕ Refusal) → ◌≡◌ {A = Result ℕ Refusal × State} (r, u.state) (peel M t.state slip c) → u.state.number ≡ t.state.number
peel_number M t u slip c r e =
    ap (λ (x : Result ℕ Refusal × State). x.1.number) e ∙ guarded (peel_bars M t.state slip c) t.state _ (λ (x : State). x.number ≡ t.state.number) refl (λ _. refl)

pub prune_number : (M : Meaning) (t u : Trial) (slip q : ℕ) (l : List ℕ) (r : Result (Unit {0}) Refusal) → ◌≡◌ {A = Result (Unit {0}) Refusal × State} (r, u.state) (prune M t.state slip q l) → u.state.number ≡ t.state.number
prune_number M t u slip q l r e =
    ap (λ (x : Result (Unit {0}) Refusal × State). x.1.number) e ∙ guarded (prune_bars M t.state slip q l) t.state _ (λ (x : State). x.number ≡ t.state.number) refl (λ _. refl)

solved_number : (M : Meaning) (s : State) (slip : ℕ) (k connects : List Bool) (isFree : Bool) (found : List (List Bool)) → (solve_found M s slip k connects isFree found).1.number ≡ s.number
solved_number M s slip k connects isFree [] = refl
solved_number M s slip k connects isFree (z ∷ found) = guarded (wrong_slip s slip ∷ []) s _ (λ (x : State). x.number ≡ s.number) refl (λ _. go isFree)
  where
    go : (b : Bool) → ◌≡◌ {A = ℕ} (cond {A = Result Cluster Refusal × State} b (Ok Shelved, shelve k (lowest connects) s) (Ok Flipped, choose M k z (z ∷ found) s)).1.number s.number
    go true = refl
    go false = refl

pub solve_number : (M : Meaning) (t u : Trial) (slip q : ℕ) (scratch later : List ℕ) (r : Result Cluster Refusal) → ◌≡◌ {A = Result Cluster Refusal × State × List ℕ} (r, u.state, later) (solve M t.state slip q scratch)
    → u.state.number ≡ t.state.number
solve_number M t u slip q scratch later r e =
    let K = cluster M t.state q in
    ap (λ (x : Result Cluster Refusal × State × List ℕ). x.1.number) e
    ∙ guarded (solve_bars M t.state q scratch K (connects M t.state q)) t.state _ (λ (x : State). x.number ≡ t.state.number) refl
    (λ _. solved_number M t.state slip K (connects M t.state q) (free M t.state K (connects M t.state q)) (solve_from M t.state q))

pub run_kept : (M : Meaning) (t u : Trial) (slip w : ℕ) (scratch later : List ℕ) (r : Result Ending Refusal) → ◌≡◌ {A = Result Ending Refusal × State × List ℕ} (r, u.state, later) (run M t.state slip w scratch)
    → u.state.number ≡ t.state.number
run_kept M t u slip w scratch later r e = ap (λ (x : Result Ending Refusal × State × List ℕ). x.1.number) e ∙ run_number M t.state slip w scratch

found_number : (M : Meaning) (s : State) (slip : ℕ) (found : List (List Bool)) → (sweep_found M s slip found).1.number ≡ s.number
found_number M s slip [] = refl
found_number M s slip (z ∷ found) = guarded (wrong_slip s slip ∷ []) s _ (λ (x : State). x.number ≡ s.number) refl (λ _. refl)

pub sweep_number : (M : Meaning) (t u : Trial) (slip : ℕ) (r : Result (Unit {0}) Refusal) → ◌≡◌ {A = Result (Unit {0}) Refusal × State} (r, u.state) (sweep M t.state slip) → u.state.number ≡ t.state.number
sweep_number M t u slip r e =
    ap (λ (x : Result (Unit {0}) Refusal × State). x.1.number) e
    ∙ guarded (sweep_bars t.state) t.state _ (λ (x : State). x.number ≡ t.state.number) refl (λ _. found_number M t.state slip (sweep_from M t.state))

settled_number : (M : Meaning) (before s : State) (k : List Bool) (found : List (List Bool)) → before.number ≡ s.number → (settle_found M before s k found).1.number ≡ before.number
settled_number M before s k [] e = refl
settled_number M before s k (z ∷ found) e = sym e

newest_number : (M : Meaning) (s : State) (l : List Entry) → (settle_newest M s l).1.number ≡ s.number
newest_number M s [] = refl
newest_number M s (e ∷ l) = settled_number M s (reopen e.check l s) e.members (settle_from M s e l) refl

pub settle_number : (M : Meaning) (t u : Trial) (slip : ℕ) (r : Result (Unit {0}) Refusal) → ◌≡◌ {A = Result (Unit {0}) Refusal × State} (r, u.state) (settle M t.state slip) → u.state.number ≡ t.state.number
settle_number M t u slip r e =
    ap (λ (x : Result (Unit {0}) Refusal × State). x.1.number) e
    ∙ guarded (settle_bars t.state slip) t.state _ (λ (x : State). x.number ≡ t.state.number) refl (λ _. newest_number M t.state t.state.shelf)

-- and another trial of the same number leaves each slip the number at its place
pub own_after : (slips : List (Option Slip)) (l : List Trial) (k : ℕ) (u d : Trial) → u.state.number ≡ (get_or l k d).state.number → Own slips (trial_numbers l) → Own slips (trial_numbers (set l k u))
own_after slips l k u d e own = subst (Own slips) (sym (map-set_same (λ (x : Trial). x.state.number) l k u d e)) own
