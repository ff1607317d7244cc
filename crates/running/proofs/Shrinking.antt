-- Calls leave nothing erased that was not, so a generator that has a qubit that is not erased stays one.
use Rattle.std.proofs.Common.{◌≡◌, ℕ, ◌≤◌, Bool, true, false, not, ◌&&◌, List, [], ◌∷◌, length, Some, None, Option, sym, ap, ◌∙◌}
use Rattle.std.proofs.lemmas.Bool.{and_parts, and_from, false_from_ne_true}
use Rattle.std.proofs.lemmas.List.{get_or_past}
use Rattle.sets.specs.Sets.{has, row, any, within, less}
use Rattle.sets.proofs.Bits.{clash}
use Rattle.sets.proofs.Sets.{has_less, within_length, within_has, has_within}
use Rattle.meaning.specs.Meaning.{Meaning}
use Rattle.rules.specs.States.{State}
use Rattle.rules.specs.Clusters.{cluster, free}
use Rattle.rules.specs.Refusing.{wrong_slip}
use Rattle.rules.specs.Calls.{peel_bars, prune_bars, solve_bars, sweep_bars, solve_found, sweep_found, peel, prune, solve, sweep}
use Rattle.rules.specs.Moves.{solve_from, sweep_from, connects}
use Rattle.rules.specs.Run.{all_erased}
use Rattle.rules.proofs.Bars.{guarded}
use Rattle.running.specs.Finding.{NoneBelow}
use Rattle.running.specs.Solving.{solve_at}

module _ (M : Meaning) (s : State) where
  -- what is erased in t was erased
  abbrev pub Shrunk : State → Type 0
  Shrunk t = (i : ℕ) → has t.erased i ≡ true → has s.erased i ≡ true

  same : Shrunk s
  same i e = e

  smaller : (k : List Bool) (i : ℕ) → has (less s.erased k) i ≡ true → has s.erased i ≡ true
  smaller k i e = (and_parts (has s.erased i) (not (has k i)) (sym (has_less s.erased k i) ∙ e)).0

  pub peel_shrinks : (slip c : ℕ) → Shrunk (peel M s slip c).1
  peel_shrinks slip c = guarded (peel_bars M s slip c) s _ Shrunk same (λ _. smaller _)

  pub prune_shrinks : (slip q : ℕ) (l : List ℕ) → Shrunk (prune M s slip q l).1
  prune_shrinks slip q l = guarded (prune_bars M s slip q l) s _ Shrunk same (λ _. smaller _)

  pub solve_shrinks : (slip q : ℕ) (scratch : List ℕ) → Shrunk (solve M s slip q scratch).1
  solve_shrinks slip q scratch =
      guarded (solve_bars M s q scratch (cluster M s q) (connects M s q)) s (solve_found M s slip (cluster M s q) (connects M s q) (free M s (cluster M s q) (connects M s q)) (solve_from M s q)) Shrunk same
      (λ _. go (free M s (cluster M s q) (connects M s q)) (solve_from M s q))
    where
      go : (f : Bool) (found : List (List Bool)) → Shrunk (solve_found M s slip (cluster M s q) (connects M s q) f found).1
      go f [] = same
      go true (z ∷ found) = guarded (wrong_slip s slip ∷ []) s _ Shrunk same (λ _. smaller _)
      go false (z ∷ found) = guarded (wrong_slip s slip ∷ []) s _ Shrunk same (λ _. smaller _)

  pub sweep_shrinks : (slip : ℕ) → Shrunk (sweep M s slip).1
  sweep_shrinks slip = guarded (sweep_bars s) s (sweep_found M s slip (sweep_from M s)) Shrunk same (λ _. go (sweep_from M s))
    where
      go : (found : List (List Bool)) → Shrunk (sweep_found M s slip found).1
      go [] = same
      go (z ∷ found) = guarded (wrong_slip s slip ∷ []) s _ Shrunk same (λ _. smaller _)

  -- a generator that was not to prune by is not to prune by
  still_idle : (t : State) → Shrunk t → length t.erased ≡ length s.erased → (g : ℕ) → all_erased M s g ≡ false → all_erased M t g ≡ false
  still_idle t h long g e =
      false_from_ne_true (all_erased M t g) (λ f.
      let b = and_parts (any (row M.generators g)) (within (row M.generators g) t.erased) f in
      clash (and_from _ _ b.0 (has_within (row M.generators g) s.erased (within_length (row M.generators g) t.erased b.1 ∙ long) (λ k x. h k (within_has (row M.generators g) t.erased b.1 k x)))) e)

  pub idle_below : (t : State) → Shrunk t → length t.erased ≡ length s.erased → (k : ℕ) → NoneBelow (all_erased M s) k → NoneBelow (all_erased M t) k
  idle_below t h long k below j l = still_idle t h long j (below j l)

  -- no generator's number, nothing to prune by
  pub idle_past : (j : ℕ) → length M.generators ≤ j → all_erased M s j ≡ false
  idle_past j h = ap (λ r. any r && within r s.erased) (get_or_past M.generators j [] h)

  pub solve_at_shrinks : (slip : ℕ) (scratch : List ℕ) (o : Option ℕ) → Shrunk (solve_at M s slip scratch o).1
  solve_at_shrinks slip scratch None = same
  solve_at_shrinks slip scratch (Some q) = solve_shrinks slip q scratch
