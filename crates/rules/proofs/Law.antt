-- The law about calls.
use Rattle.std.proofs.Common.{◌≡◌, ℕ, ◌+◌, ◌^◌, Bool, true, false, cond, ◌||◌, List, length, Ok, Err, Result, sym, refl, ap, ◌∙◌, subst, mul-one, arith}
use Rattle.std.proofs.lemmas.Bool.{or_parts, false_from_ne_true}
use lib.ListN.{length-replicate}
use Rattle.terms.specs.declared.refusal.Refusal.{Refusal}
use Rattle.sets.specs.Bits.{flip}
use Rattle.sets.specs.Sets.{odd, has, row, plus, empty, any}
use Rattle.sets.specs.Lists.{Exactly}
use Rattle.sets.proofs.Bits.{clash, flip_false}
use Rattle.sets.proofs.Sets.{any_none, any_some, odd_empty, ext, has_empty}
use Rattle.meaning.specs.Meaning.{Meaning, Sound, qubits}
use Rattle.linear.proofs.Count.{exactly_one}
use Rattle.rules.specs.Reports.{report, Report, For, Fits, product, Named}
use Rattle.rules.specs.declared.answers.Outcome.TheVariants.{Solved, Nothing, Unfinished}
use Rattle.rules.specs.declared.answers.Verdict.{Verdict}
use Rattle.rules.specs.States.{State, opening}
use Rattle.rules.specs.Moves.{Move, Moves, stays, peels, prunes, solves, shelves, fails, sweeps, sweep_fails, settles, arrived, moved}
use Rattle.rules.specs.Tallies.{Tally, outcome, verdict, counted, close_bars}
use Rattle.rules.specs.CallLists.{Call, call, after, ClosedIn, here, later}
use Rattle.rules.specs.Law.{Right, Promised, TrueOf, Truthful, Law, LawAfter, LiberalLaw}
use Rattle.rules.proofs.Split.{Under, Res}
use Rattle.rules.proofs.Core.{res_fits, hopeless}
use Rattle.rules.proofs.Pruned.{differ_by_product}
use Rattle.rules.proofs.Shelf.{left_of, Inv, inv_open}
use Rattle.rules.proofs.Steps.{peel_inv, prune_inv, sweep_inv, sweep_none}
use Rattle.rules.proofs.Solve.{solve_inv, solve_none, shelve_inv}
use Rattle.rules.proofs.Settle.{settle_inv}
use Rattle.rules.proofs.Bars.{passed, accepted}
use Rattle.rules.proofs.Calls.{call_move, after_moves}
use Rattle.rules.proofs.Openings.{report_for, opened_is, always}

module _ (M : Meaning) (sound : Sound M) (R : Report) (for : For M R) where
  -- of a void trial nothing fits; of another, what moves keep
  abbrev pub Holds : Bool → State → Type 0
  Holds true s = (e : List Bool) → ¬ Fits M R e
  Holds false s = Inv M sound R for s

  abbrev pub Truth : State → Type 0
  Truth s = Holds s.void s

  pub live : (s : State) → s.void ≡ false → Truth s → Inv M sound R for s
  live s v h = subst (λ b. Holds b s) v h

  kept : (s t : State) → s.void ≡ false → t.void ≡ s.void → Inv M sound R for t → Truth t
  kept s t v w h = subst (λ b. Holds b t) (sym (w ∙ v)) h

  pub move_truth : (s t : State) → Move M s t → Truth s → Truth t
  move_truth s t (stays e) h = subst Truth (sym e) h
  move_truth s t (peels c v o one e) h = subst Truth (sym e) (kept s _ v refl (peel_inv M sound R for s (live s v h) c o one))
  move_truth s t (prunes q l v named out on e) h = subst Truth (sym e) (kept s _ v refl (prune_inv M sound R for s (live s v h) q l named out on))
  move_truth s t (solves q z v on few no_way m e) h = subst Truth (sym e) (kept s _ v refl (solve_inv M sound R for s (live s v h) q on few no_way z m))
  move_truth s t (shelves q z v on few way m e) h = subst Truth (sym e) (kept s _ v refl (shelve_inv M sound R for s (live s v h) q on few way z m))
  move_truth s t (fails q v on e0 e) h = subst Truth (sym e) (solve_none M sound R for s (live s v h) q on e0)
  move_truth s t (sweeps z v m e) h = subst Truth (sym e) (kept s _ v refl (sweep_inv M sound R for s (live s v h) z m))
  move_truth s t (sweep_fails v e0 e) h = subst Truth (sym e) (sweep_none M sound R for s (live s v h) e0)
  move_truth s t (settles x l z v off newest m e) h = subst Truth (sym e) (kept s _ v refl (settle_inv M sound R for s (live s v h) off x l newest z m))

  pub moves_truth : (t s : State) → Moves M t s → Truth s → Truth t
  moves_truth t s arrived h = h
  moves_truth t s (moved {u = u} m r) h = moves_truth t u r (move_truth s u m h)

  pub open_truth : (number : ℕ) → Truth (opening M R number)
  open_truth number = inv_open M sound R for number

  -- a close tells the truth
  module _ (s : State) (h : Inv M sound R for s) (off : (any s.erased || any s.shelved) ≡ false) where
    nothing_left : (i : ℕ) → left_of s i ≡ false
    nothing_left i = let b = or_parts (any s.erased) (any s.shelved) off in ap (λ t. t || has s.shelved i) (any_none s.erased b.0 i) ∙ any_none s.shelved b.1 i

    only_empty : (y : List Bool) → Under (qubits M) (left_of s) y → y ≡ empty (qubits M)
    only_empty y u = ext y (empty (qubits M)) (u.long ∙ sym (length-replicate (qubits M) false)) (λ i. false_from_ne_true (has y i) (λ e. clash (u.inside i e) (nothing_left i)) ∙ sym (has_empty (qubits M) i))

    odd_remains : any s.odds ≡ true → (e : List Bool) → ¬ Fits M R e
    odd_remains o = hopeless M sound R for h.core (λ y r. let d = any_some s.odds o in clash (r.told d.0 ∙ d.1) (ap (odd (row M.checks d.0)) (only_empty y r.under) ∙ odd_empty (row M.checks d.0) (qubits M)))

    right : any s.odds ≡ false → Right M R s.flipped s.pruned s.chosen
    right o = record { fits = fits; count = counted; product = products }
      where
        fits : Fits M R s.flipped
        fits = res_fits M sound R for s.flipped (record {
          under = record { long = h.core.long; inside = h.core.lost };
          told = λ d. sym (flip_false (odd (row M.checks d) s.flipped)) ∙ ap (flip (odd (row M.checks d) s.flipped)) (sym (any_none s.odds o d)) ∙ h.core.told d;
        })

        empty_res : Res (qubits M) M.checks (left_of s) (has s.odds) (empty (qubits M))
        empty_res = record {
          under = record { long = length-replicate (qubits M) false; inside = λ i e. absurd (clash e (has_empty (qubits M) i)) };
          told = λ d. odd_empty (row M.checks d) (qubits M) ∙ sym (any_none s.odds o d);
        }

        counted : Exactly (2 ^ (s.pruned + s.chosen)) (Fits M R)
        counted = subst (λ (t : ℕ). Exactly t (Fits M R)) (mul-one (2 ^ (s.pruned + s.chosen))) (h.core.counts 1 (exactly_one (empty (qubits M)) empty_res (λ y r. only_empty y r.under)))

        products : s.chosen ≡ 0 → (e : List Bool) → Fits M R e → (l : List ℕ) × Named M l × (plus e s.flipped ≡ product M l)
        products c0 e f =
            let n : s.pruned + s.chosen ≡ length h.core.cuts = omega (arith, h.core.cuts_many) in
            differ_by_product M sound R for (left_of s) h.core.cuts h.core.chain s.flipped fits (subst (λ (t : ℕ). Exactly (2 ^ t) (Fits M R)) n counted) e f

  outcome_truth : (s : State) → Truth s → Promised M R s (outcome s) s.pruned s.chosen
  outcome_truth s h = go s.void refl h
    where
      odds : (b : Bool) → any s.odds ≡ b → Inv M sound R for s → (any s.erased || any s.shelved) ≡ false → Promised M R s (cond b Nothing Solved) s.pruned s.chosen
      odds true e i off = odd_remains s i off e
      odds false e i off = right s i off e

      left : (b : Bool) → (any s.erased || any s.shelved) ≡ b → Inv M sound R for s → Promised M R s (cond b Unfinished (cond (any s.odds) Nothing Solved)) s.pruned s.chosen
      left true e i = tt
      left false e i = odds (any s.odds) refl i e

      go : (b : Bool) → s.void ≡ b → Holds b s → Promised M R s (cond b Nothing (cond (any s.erased || any s.shelved) Unfinished (cond (any s.odds) Nothing Solved))) s.pruned s.chosen
      go true e n = n
      go false e i = left (any s.erased || any s.shelved) refl i

  -- an accepted close answers the verdict
  pub truthful : (s : State) → Truth s → Truthful M R s
  truthful s h slip t v e =
      let given : Result Verdict Refusal × Tally = (Ok (verdict s), counted (outcome s) t) in
      let c = accepted (close_bars s slip t) t given v e in
      let same : ◌≡◌ {A = Result Verdict Refusal} (Ok (verdict s)) (Ok v) = sym (ap (λ (r : Result Verdict Refusal × Tally). r.0) (passed (close_bars s slip t) t given c)) ∙ e in
      let is : verdict s ≡ v = ap (verdict_of (verdict s)) same in
      subst (λ (x : Verdict). Promised M R s x.outcome x.pruned x.chosen) is (outcome_truth s h)
    where
      verdict_of : Verdict → Result Verdict Refusal → Verdict
      verdict_of x (Ok y) = y
      verdict_of x (Err r) = x

pub liberal : LiberalLaw
liberal M sound R for number s m = truthful M sound R for s (moves_truth M sound R for s (opening M R number) m (open_truth M sound R for number))

-- what is true of a trial after any calls
pub after_truth : (M : Meaning) (sound : Sound M) (R : Report) (for : For M R) (number : ℕ) (calls : List Call) → Truth M sound R for (after M (opening M R number) calls)
after_truth M sound R for number calls = moves_truth M sound R for (after M (opening M R number) calls) (opening M R number) (after_moves M (opening M R number) calls) (open_truth M sound R for number)

pub law_after : LawAfter
law_after = always Truthful (λ M sound R for number calls. truthful M sound R for (after M (opening M R number) calls) (after_truth M sound R for number calls))

closed_truth : (M : Meaning) (sound : Sound M) (R : Report) (for : For M R) (t : State) (v : Verdict) (s : State) (calls : List Call) → Truth M sound R for s → ClosedIn M t v s calls → TrueOf M R t v
closed_truth M sound R for t v s calls h (here {slip = slip} {tally = tally} e) = truthful M sound R for t h slip tally v e
closed_truth M sound R for t v s calls h (later {c = c} {calls = more} m) = closed_truth M sound R for t v (call M s c) more (move_truth M sound R for s (call M s c) (call_move M s c) h) m

pub law : Law
law M sound b l lost odds o e calls s v m =
    let R : Report = report M lost odds in
    let for : For M R = report_for M lost odds in
    closed_truth M sound R for s v o.trial calls (subst (Truth M sound R for) (sym (opened_is M b l lost odds o e)) (open_truth M sound R for (b.opened + 1))) m
