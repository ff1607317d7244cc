-- Each call is a move.
use Rattle.std.proofs.Common.{◌≡◌, ℕ, ◌≤◌, Bool, true, false, cond, not, eqb, ltb, List, [], ◌∷◌, length, Ok, Result, sym, refl, ap, subst, inl, ltb-false, ltb-true, eqb-true}
use Rattle.std.proofs.lemmas.Bool.{and_parts, or_parts, not-true, not-false}
use Rattle.terms.specs.declared.refusal.Refusal.{Refusal}
use Rattle.sets.specs.Lists.{In}
use Rattle.sets.specs.Sets.{has, any, size, lowest}
use Rattle.meaning.specs.Meaning.{Meaning}
use Rattle.rules.specs.declared.answers.Cluster.TheVariants.{Shelved, Flipped}
use Rattle.rules.specs.Reports.{some_past, product, Named}
use Rattle.rules.specs.States.{Entry, State, shelve, reopen}
use Rattle.rules.specs.Clusters.{cluster, free}
use Rattle.rules.specs.Refusing.{wrong_slip}
use Rattle.rules.specs.Calls.{held, dangling, peel_bars, prune_bars, solve_bars, sweep_bars, settle_bars, peel, prune, choose, solve_found, solve, sweep_found, sweep, settle_found, settle_newest, settle}
use Rattle.rules.specs.CallLists.{Call, Peel, Prune, Solve, Sweep, Settle, Close, call, after}
use Rattle.rules.specs.Moves.{Move, Moves, stays, peels, prunes, solves, shelves, fails, sweeps, sweep_fails, settles, arrived, moved, solve_from, sweep_from, settle_from, connects}
use Rattle.rules.proofs.Bars.{guarded}

module _ (M : Meaning) where
  all_named : (l : List ℕ) → some_past (length M.generators) l ≡ false → Named M l
  all_named [] e = tt
  all_named (g ∷ l) e =
      let b = or_parts (not (ltb g (length M.generators))) (some_past (length M.generators) l) e in
      (ltb-true g (length M.generators) (not-false (ltb g (length M.generators)) b.0), all_named l b.1)

  peel_move : (s : State) (slip c : ℕ) → Move M s (peel M s slip c).1
  peel_move s slip c = guarded (peel_bars M s slip c) s _ (Move M s) (stays refl) (λ k.
      let b = and_parts (not (has s.closed c)) (eqb (size (held M s c)) 1) (not-false (dangling M s c) k.1.1.0) in
      peels c k.1.0 (not-true (has s.closed c) b.0) (eqb-true (size (held M s c)) 1 b.1) refl)

  prune_move : (s : State) (slip q : ℕ) (l : List ℕ) → Move M s (prune M s slip q l).1
  prune_move s slip q l = guarded (prune_bars M s slip q l) s _ (Move M s) (stays refl) (λ k.
      prunes q l k.1.1.1.0 (all_named l k.1.0) k.1.1.1.1.0 (not-false (has (product M l) q) k.1.1.1.1.1.0) refl)

  solve_move : (s : State) (slip q : ℕ) (scratch : List ℕ) → Move M s (solve M s slip q scratch).1
  solve_move s slip q scratch = guarded (solve_bars M s q scratch (cluster M s q) (connects M s q)) s _ (Move M s) (stays refl) (λ k.
      go k.1.1.1.0 (not-false (has s.erased q) k.1.1.1.1.0) (ltb-false 1 (size (connects M s q)) k.1.1.1.1.1.0) (free M s (cluster M s q) (connects M s q)) refl (solve_from M s q) refl)
    where
      done : (v : s.void ≡ false) → has s.erased q ≡ true → size (connects M s q) ≤ 1 → (z : List Bool) (found : List (List Bool)) → solve_from M s q ≡ z ∷ found → (b : Bool) → free M s (cluster M s q) (connects M s q) ≡ b
          → let r : Result _ Refusal × State = cond b (Ok Shelved, shelve (cluster M s q) (lowest (connects M s q)) s) (Ok Flipped, choose M (cluster M s q) z (z ∷ found) s) in Move M s r.1
      done v on few z found e true f = shelves q z v on few f (subst (In z) (sym e) (inl refl)) refl
      done v on few z found e false f = solves q z v on few f (subst (In z) (sym e) (inl refl)) (ap (λ x. choose M (cluster M s q) z x s) (sym e))

      go : s.void ≡ false → has s.erased q ≡ true → size (connects M s q) ≤ 1 → (b : Bool) → free M s (cluster M s q) (connects M s q) ≡ b → (found : List (List Bool)) → solve_from M s q ≡ found
          → Move M s (solve_found M s slip (cluster M s q) (connects M s q) b found).1
      go v on few b f [] e = fails q v on e refl
      go v on few b f (z ∷ found) e = guarded (wrong_slip s slip ∷ []) s _ (Move M s) (stays refl) (λ k. done v on few z found e b f)

  sweep_move : (s : State) (slip : ℕ) → Move M s (sweep M s slip).1
  sweep_move s slip = guarded (sweep_bars s) s _ (Move M s) (stays refl) (λ k. go k.0 (sweep_from M s) refl)
    where
      go : s.void ≡ false → (found : List (List Bool)) → sweep_from M s ≡ found → Move M s (sweep_found M s slip found).1
      go v [] e = sweep_fails v e refl
      go v (z ∷ found) e = guarded (wrong_slip s slip ∷ []) s _ (Move M s) (stays refl) (λ k. sweeps z v (subst (In z) (sym e) (inl refl)) (ap (λ x. choose M s.erased z x s) (sym e)))

  pub settle_move : (s : State) (slip : ℕ) → Move M s (settle M s slip).1
  settle_move s slip = guarded (settle_bars s slip) s _ (Move M s) (stays refl) (λ k. newest k.0 k.1.0 s.shelf refl)
    where
      found : (v : s.void ≡ false) (off : any s.erased ≡ false) (x : Entry) (l : List Entry) → s.shelf ≡ x ∷ l → (f : List (List Bool)) → settle_from M s x l ≡ f
          → Move M s (settle_found M s (reopen x.check l s) x.members f).1
      found v off x l e [] q = stays refl
      found v off x l e (z ∷ f) q = settles x l z v off e (subst (In z) (sym q) (inl refl)) (ap (λ y. choose M x.members z y (reopen x.check l s)) (sym q))

      newest : s.void ≡ false → any s.erased ≡ false → (l : List Entry) → s.shelf ≡ l → Move M s (settle_newest M s l).1
      newest v off [] e = stays refl
      newest v off (x ∷ l) e = found v off x l e (settle_from M s x l) refl

  pub call_move : (s : State) (c : Call) → Move M s (call M s c)
  call_move s (Peel slip c) = peel_move s slip c
  call_move s (Prune slip q l) = prune_move s slip q l
  call_move s (Solve slip q scratch) = solve_move s slip q scratch
  call_move s (Sweep slip) = sweep_move s slip
  call_move s (Settle slip) = settle_move s slip
  call_move s (Close slip tally) = stays refl

  pub after_moves : (s : State) (calls : List Call) → Moves M (after M s calls) s
  after_moves s [] = arrived
  after_moves s (c ∷ calls) = moved (call_move s c) (after_moves (call M s c) calls)
