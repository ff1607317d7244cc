-- A refused call changes nothing, but for a 26 that sets void.
use Rattle.std.proofs.Common.{◌≡◌, ℕ, Bool, true, false, cond, List, [], ◌∷◌, Some, Ok, Err, Result, sym, refl, inl, inr}
use Rattle.terms.specs.declared.refusal.Refusal.{Refusal}
use Rattle.sets.specs.Sets.{lowest}
use Rattle.meaning.specs.Meaning.{Meaning}
use Rattle.rules.specs.declared.answers.Cluster.{Cluster}
use Rattle.rules.specs.declared.answers.Cluster.TheVariants.{Shelved, Flipped}
use Rattle.rules.specs.States.{Entry, State, shelve, reopen}
use Rattle.rules.specs.Clusters.{cluster, free}
use Rattle.rules.specs.Refusing.{Bar, unless, wrong_slip, too_short}
use Rattle.rules.specs.Calls.{peel_bars, prune_bars, choose, solve_bars, solve_found, sweep_bars, sweep_found, settle_bars, settle_found, settle_newest}
use Rattle.rules.specs.Tallies.{open_bars, close_bars, given_back}
use Rattle.rules.specs.Run.{run_bars}
use Rattle.rules.specs.Moves.{solve_from, sweep_from, settle_from, connects}
use Rattle.rules.specs.Companions.{Kept, KeptOrVoid, RefusalsKeep}
use Rattle.rules.proofs.Bars.{Clear, not_ok}

kept : {A S : Type 0} (bars : List Bar) (s : S) (after : Result A Refusal × S) → Kept s after → Kept s (unless bars s after)
kept [] s after h = h
kept {A} {S} (b ∷ l) s after h = go b.holds (kept l s after h)
  where
    go : (t : Bool) → Kept s (unless l s after) → Kept s (cond t (Err b.says, s) (unless l s after))
    go true ih = refl
    go false ih = ih

kept_or_void : {A : Type 0} (bars : List Bar) (s : State) (after : Result A Refusal × State) → (Clear bars → KeptOrVoid s after) → KeptOrVoid s (unless bars s after)
kept_or_void [] s after h = h tt
kept_or_void {A} (b ∷ l) s after h = go b.holds refl (λ k. kept_or_void l s after k)
  where
    go : (t : Bool) → b.holds ≡ t → ((Clear l → KeptOrVoid s after) → KeptOrVoid s (unless l s after)) → KeptOrVoid s (cond t (Err b.says, s) (unless l s after))
    go true e ih = inl refl
    go false e ih = ih (λ c. h (e, c))

module _ (M : Meaning) (s : State) where
  either_way : (f : Bool) (k z : List Bool) (c : ℕ) (found : List (List Bool)) → KeptOrVoid {A = Cluster} s (cond f (Ok Shelved, shelve k c s) (Ok Flipped, choose M k z found s))
  either_way true k z c found = tt
  either_way false k z c found = tt

  solve_found_lem : (slip : ℕ) (k connects : List Bool) (f : Bool) → s.void ≡ false → (found : List (List Bool)) → KeptOrVoid s (solve_found M s slip k connects f found)
  solve_found_lem slip k connects f v [] = inr (refl, v, refl)
  solve_found_lem slip k connects f v (z ∷ found) = kept_or_void (wrong_slip s slip ∷ []) s _ (λ _. either_way f k z (lowest connects) (z ∷ found))

  sweep_found_lem : (slip : ℕ) → s.void ≡ false → (found : List (List Bool)) → KeptOrVoid s (sweep_found M s slip found)
  sweep_found_lem slip v [] = inr (refl, v, refl)
  sweep_found_lem slip v (z ∷ found) = kept_or_void (wrong_slip s slip ∷ []) s _ (λ _. tt)

  settle_found_lem : (t : State) (k : List Bool) (found : List (List Bool)) → Kept s (settle_found M s t k found)
  settle_found_lem t k [] = refl
  settle_found_lem t k (z ∷ found) = tt

  settle_newest_lem : (l : List Entry) → Kept s (settle_newest M s l)
  settle_newest_lem [] = refl
  settle_newest_lem (e ∷ l) = settle_found_lem (reopen e.check l s) e.members (settle_from M s e l)

back : {A : Type 0} (a : Result A Refusal) (slip : ℕ) (r : Refusal) → a ≡ Err r → given_back a slip ≡ Some slip
back (Ok a) slip r e = not_ok r a (sym e)
back (Err x) slip r e = refl

pub refusals_keep : RefusalsKeep
refusals_keep M s =
    record {
      peel_kept = λ slip c. kept (peel_bars M s slip c) s _ tt;
      prune_kept = λ slip q l. kept (prune_bars M s slip q l) s _ tt;
      solve_kept = λ slip q scratch. kept_or_void (solve_bars M s q scratch (cluster M s q) (connects M s q)) s _ (λ c. solve_found_lem M s slip (cluster M s q) (connects M s q) (free M s (cluster M s q) (connects M s q)) c.1.1.1.0 (solve_from M s q));
      sweep_kept = λ slip. kept_or_void (sweep_bars s) s _ (λ c. sweep_found_lem M s slip c.0 (sweep_from M s));
      settle_kept = λ slip. kept (settle_bars s slip) s _ (settle_newest_lem M s s.shelf);
      run_kept = λ slip w scratch. kept (run_bars M s slip w scratch) s _ tt;
      scratch_kept = λ slip q w scratch. (refl, refl);
      copy_kept = λ buffer. kept (too_short M buffer ∷ []) buffer _ tt;
      open_kept = λ t lost odds. kept (open_bars M t lost odds) t _ tt;
      close_kept = λ slip t. kept (close_bars s slip t) t _ tt;
      slip_back = λ slip t r e. back _ slip r e;
    }
