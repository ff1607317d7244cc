-- No call is accepted that is shown another slip than the trial's.
use Rattle.std.proofs.Common.{◌≡◌, ℕ, Bool, false, not, eqb, List, [], ◌∷◌, Ok, Result, sym, ap, ◌∙◌, eqb-true}
use Rattle.std.proofs.lemmas.Bool.{not-false}
use borrow.Author.Tests.{eqb-false}
use Rattle.terms.specs.declared.refusal.Refusal.{Refusal}
use Rattle.terms.specs.declared.refusal.Refusal.TheVariants.{NoSolution}
use Rattle.meaning.specs.Meaning.{Meaning}
use Rattle.rules.specs.declared.answers.Cluster.{Cluster}
use Rattle.rules.specs.States.{State}
use Rattle.rules.specs.Clusters.{cluster, free}
use Rattle.rules.specs.Refusing.{Bar, unless, wrong_slip}
use Rattle.rules.specs.Calls.{peel_bars, prune_bars, solve_bars, solve_found, sweep_bars, sweep_found, settle_bars}
use Rattle.rules.specs.Tallies.{closings, close_bars}
use Rattle.rules.specs.Run.{run_bars}
use Rattle.rules.specs.Moves.{solve_from, sweep_from, connects}
use Rattle.rules.specs.Companions.{SlipShown}
use Rattle.rules.proofs.Bars.{not_ok, passed, accepted}

module _ (M : Meaning) (s : State) (slip : ℕ) where
  own : not (eqb slip s.number) ≡ false → slip ≡ s.number
  own e = eqb-true slip s.number (not-false (eqb slip s.number) e)

  -- what an accepted call answers is what it answers past its bars
  past : {A S : Type 0} (bars : List Bar) (x : S) (after : Result A Refusal × S) (a : A) → (unless bars x after).0 ≡ Ok a → after.0 ≡ Ok a
  past {A} {S} bars x after a e = sym (ap (λ (r : Result A Refusal × S). r.0) (passed bars x after (accepted bars x after a e))) ∙ e

  solve_own : (q : ℕ) (f : Bool) (k : Cluster) (found : List (List Bool)) → (solve_found M s slip (cluster M s q) (connects M s q) f found).0 ≡ Ok k → slip ≡ s.number
  solve_own q f k [] e = not_ok NoSolution k e
  solve_own q f k (z ∷ found) e = own (accepted (wrong_slip s slip ∷ []) s _ k e).0

  sweep_own : (found : List (List Bool)) → (sweep_found M s slip found).0 ≡ Ok tt → slip ≡ s.number
  sweep_own [] e = not_ok NoSolution tt e
  sweep_own (z ∷ found) e = own (accepted (wrong_slip s slip ∷ []) s _ tt e).0

pub slip_shown : SlipShown
slip_shown M s slip =
    record {
      peel_shown = λ c q e. own M s slip (accepted (peel_bars M s slip c) s _ q e).1.1.1.0;
      prune_shown = λ q l e. own M s slip (accepted (prune_bars M s slip q l) s _ tt e).1.1.1.1.1.1.0;
      solve_shown = λ q scratch k e. solve_own M s slip q (free M s (cluster M s q) (connects M s q)) k (solve_from M s q) (past M s slip (solve_bars M s q scratch (cluster M s q) (connects M s q)) s _ k e);
      sweep_shown = λ e. sweep_own M s slip (sweep_from M s) (past M s slip (sweep_bars s) s _ tt e);
      settle_shown = λ e. own M s slip (accepted (settle_bars s slip) s _ tt e).1.1.1.0;
      run_shown = λ w scratch x e. own M s slip (accepted (run_bars M s slip w scratch) s _ x e).1.1.1.0;
      close_shown = λ t v e. let c = accepted (close_bars s slip t) t _ v e in (own M s slip c.0, eqb-false t.opened (closings t) c.1.0);
    }
