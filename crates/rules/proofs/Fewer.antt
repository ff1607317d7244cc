-- Each call that a run makes leaves the trial void, or the erased qubits fewer.
use Rattle.std.proofs.Common.{◌≡◌, ℕ, ◌<◌, ◌≤◌, Bool, true, false, cond, not, ◌||◌, eqb, ltb, ◌⊎◌, List, [], ◌∷◌, length, take, Ok, Result, sym, refl, ap, ◌∙◌, subst, inl, inr, arith, lt-ltb, eqb-true}
use mathlib.Core.Option.{Option, none, some}
use Rattle.std.specs.List.{range_with_len}
use Rattle.std.proofs.lemmas.Bool.{false_from_ne_true, and_parts, and_from, or_left, not-true}
use Rattle.terms.specs.declared.refusal.Refusal.{Refusal}
use Rattle.terms.specs.declared.refusal.Refusal.TheVariants.{QubitTooLarge, NothingErased, SeveralConnecting, TooManyUnknowns}
use Rattle.sets.specs.Bits.{flip}
use Rattle.sets.specs.Sets.{has, row, meet, less, empty, only, any, size, lowest, within}
use Rattle.sets.proofs.Bits.{clash, flip_false}
use Rattle.sets.proofs.Sets.{has_join, has_meet, has_plus, has_empty, has_below, only_self, any_some, within_has}
use Rattle.sets.proofs.Numbers.{eqb_same}
use Rattle.meaning.specs.Meaning.{Meaning, qubits}
use Rattle.rules.specs.declared.answers.Cluster.{Cluster}
use Rattle.rules.specs.declared.answers.Cluster.TheVariants.{Shelved, Flipped}
use Rattle.rules.specs.Reports.{product}
use Rattle.rules.specs.States.{State, shelve}
use Rattle.rules.specs.Clusters.{same_side, touched, spanned, grown, cluster, free}
use Rattle.rules.specs.Refusing.{Bar, bar, unless, is_void, wrong_slip, too_short, in_use, some_nonzero}
use Rattle.rules.specs.Calls.{held, dangling, peel_bars, prune_bars, solve_bars, sweep_bars, choose, solve_found, sweep_found, peel, prune, solve, sweep}
use Rattle.rules.specs.CallLists.{Call, Peel, Prune, Solve, Sweep, call}
use Rattle.rules.specs.Moves.{solve_from, sweep_from, connects}
use Rattle.rules.specs.Run.{first_that, or_else, passed_over, on, only_if, peelable, all_erased, prunable, can_solve, solvable, can_sweep, sweepable, next}
use Rattle.rules.proofs.Bars.{Clear, passed, allowed, stopped}
use Rattle.sets.proofs.Sizes.{size_some, size_fewer, one_of, lowest_has}
use Rattle.rules.proofs.Cluster.{again_keeps}
use Rattle.rules.proofs.Firsts.{some_is, never, or_else_lem, only_if_lem, as_call_lem, first_that_lem}

-- the scratch buffer is long enough, and its bytes are zero
abbrev pub Clean : Meaning → List ℕ → Type 0
Clean M scratch = (ltb (length scratch) (qubits M) ≡ false) × (some_nonzero (take (qubits M) scratch) ≡ false)

below_test : (k n : ℕ) → k < n → not (ltb k n) ≡ false
below_test k n h = ap not (lt-ltb k n h)

module _ (M : Meaning) (s : State) (live : s.void ≡ false) where
  abbrev pub Fewer : State → Type 0
  Fewer t = ((t.void ≡ true) × (1 ≤ size s.erased)) ⊎ (size t.erased < size s.erased)

  own_slip : not (eqb s.number s.number) ≡ false
  own_slip = ap not (eqb_same s.number)

  peel_fewer : (c : ℕ) → dangling M s c ≡ true → c < length M.checks → Fewer (peel M s s.number c).1
  peel_fewer c p h = allowed (peel_bars M s s.number c) s _ Fewer (below_test c (length M.checks) h, (live, (ap not p, (own_slip, tt)))) (inr fewer)
    where
      fewer : size (less s.erased (held M s c)) < size s.erased
      fewer =
          let o = one_of (held M s c) (eqb-true (size (held M s c)) 1 (and_parts (not (has s.closed c)) (eqb (size (held M s c)) 1) p).1) in
          size_fewer s.erased (held M s c) o.0 (and_parts (has (row M.checks c) o.0) (has s.erased o.0) (sym (has_meet (row M.checks c) s.erased o.0) ∙ o.1)).1 o.1

  prune_fewer : (g : ℕ) → all_erased M s g ≡ true → g < length M.generators → length s.erased ≡ qubits M
      → Fewer (prune M s s.number (lowest (row M.generators g)) (g ∷ [])).1
  prune_fewer g p h long =
      allowed (prune_bars M s s.number (lowest (row M.generators g)) (g ∷ [])) s _ Fewer (
        below_test q (qubits M) below,
        (
          ap (λ b. b || false) (below_test g (length M.generators) h),
          (refl, (live, (ap (λ b. not b || false) b.1, (ap not in_product, (own_slip, tt))))),
        ),
      )
      (inr (size_fewer s.erased (only (qubits M) q) q erased_q (only_self (qubits M) q below)))
    where
      b : (any (row M.generators g) ≡ true) × (within (row M.generators g) s.erased ≡ true)
      b = and_parts (any (row M.generators g)) (within (row M.generators g) s.erased) p

      q : ℕ
      q = lowest (row M.generators g)

      here : has (row M.generators g) q ≡ true
      here = lowest_has (row M.generators g) b.0

      erased_q : has s.erased q ≡ true
      erased_q = within_has (row M.generators g) s.erased b.1 q here

      below : q < qubits M
      below = let k : q < length s.erased = has_below s.erased q erased_q in omega (arith, long)

      in_product : has (product M (g ∷ [])) q ≡ true
      in_product = has_plus (row M.generators g) (empty (qubits M)) q ∙ ap (flip (has (row M.generators g) q)) (has_empty (qubits M) q) ∙ flip_false (has (row M.generators g) q) ∙ here

  own_cluster : (q : ℕ) → q < qubits M → has (cluster M s q) q ≡ true
  own_cluster q h =
      again_keeps (λ y. has y q ≡ true) (grown M s (same_side M s q))
      (λ y e. has_join y (meet (same_side M s q) (spanned M.checks (touched M s y))) q ∙ or_left (has y q) (has (meet (same_side M s q) (spanned M.checks (touched M s y))) q) e)
      (qubits M) (only (qubits M) q) (only_self (qubits M) q h)

  solve_fewer : (scratch : List ℕ) → Clean M scratch → (q : ℕ) → can_solve M scratch s q ≡ true → q < qubits M → Fewer (solve M s s.number q scratch).1
  solve_fewer scratch clean q p h = allowed (solve_bars M s q scratch (cluster M s q) (connects M s q)) s after Fewer (c.0, (c.1.0, (c.1.1.0, (c.1.1.1.0, (c.1.1.1.1.0, (few, (small, tt))))))) (go (free M s (cluster M s q) (connects M s q)) (solve_from M s q))
    where
      b : (has s.erased q ≡ true) × (not (passed_over (solve M s s.number q scratch).0) ≡ true)
      b = and_parts (has s.erased q) (not (passed_over (solve M s s.number q scratch).0)) p

      after : Result Cluster Refusal × State
      after = solve_found M s s.number (cluster M s q) (connects M s q) (free M s (cluster M s q) (connects M s q)) (solve_from M s q)

      front : List Bar
      front = bar (not (ltb q (qubits M))) QubitTooLarge ∷ too_short M scratch ∷ in_use M scratch ∷ is_void s ∷ bar (not (has s.erased q)) NothingErased ∷ []

      several : Bar
      several = bar (ltb 1 (size (connects M s q))) SeveralConnecting

      large : Bar
      large = bar (ltb 256 (size (cluster M s q))) TooManyUnknowns

      c : Clear front
      c = (below_test q (qubits M) h, (clean.0, (clean.1, (live, (ap not b.0, tt)))))

      goes_on : passed_over (unless (solve_bars M s q scratch (cluster M s q) (connects M s q)) s after).0 ≡ false
      goes_on = not-true (passed_over (solve M s s.number q scratch).0) b.1

      few : ltb 1 (size (connects M s q)) ≡ false
      few = false_from_ne_true (ltb 1 (size (connects M s q))) (λ e. clash (ap (λ (r : Result Cluster Refusal × State). passed_over r.0) (stopped front several (large ∷ []) s after c e)) goes_on)

      front' : List Bar
      front' = bar (not (ltb q (qubits M))) QubitTooLarge ∷ too_short M scratch ∷ in_use M scratch ∷ is_void s ∷ bar (not (has s.erased q)) NothingErased ∷ several ∷ []

      c' : Clear front'
      c' = (c.0, (c.1.0, (c.1.1.0, (c.1.1.1.0, (c.1.1.1.1.0, (few, tt))))))

      small : ltb 256 (size (cluster M s q)) ≡ false
      small = false_from_ne_true (ltb 256 (size (cluster M s q))) (λ e. clash (ap (λ (r : Result Cluster Refusal × State). passed_over r.0) (stopped front' large [] s after c' e)) goes_on)

      either_way : (f : Bool) (z : List Bool) (found : List (List Bool)) → let r : Result Cluster Refusal × State = cond f (Ok Shelved, shelve (cluster M s q) (lowest (connects M s q)) s) (Ok Flipped, choose M (cluster M s q) z (z ∷ found) s) in Fewer r.1
      either_way true z found = inr (size_fewer s.erased (cluster M s q) q b.0 (own_cluster q h))
      either_way false z found = inr (size_fewer s.erased (cluster M s q) q b.0 (own_cluster q h))

      go : (f : Bool) (found : List (List Bool)) → Fewer (solve_found M s s.number (cluster M s q) (connects M s q) f found).1
      go f [] = inl (refl, size_some s.erased q b.0)
      go f (z ∷ found) = allowed (wrong_slip s s.number ∷ []) s _ Fewer (own_slip, tt) (either_way f z found)

  -- a sweep that is not passed over has at most 256 unknowns
  sweep_small : can_sweep M s ≡ true → ltb 256 (size s.erased) ≡ false
  sweep_small p = false_from_ne_true (ltb 256 (size s.erased)) (λ e. clash (ap (λ (r : Result (Unit {0}) Refusal × State). passed_over r.0) (stopped (is_void s ∷ bar (not (any s.erased)) NothingErased ∷ []) (bar (ltb 256 (size s.erased)) TooManyUnknowns) [] s (sweep_found M s s.number (sweep_from M s)) (live, (ap not b.0, tt)) e)) (not-true (passed_over (sweep M s s.number).0) b.1))
    where
      b : (any s.erased ≡ true) × (not (passed_over (sweep M s s.number).0) ≡ true)
      b = and_parts (any s.erased) (not (passed_over (sweep M s s.number).0)) p

  -- with something erased, and at most 256 of it, a sweep is not passed over
  pub sweep_passes : any s.erased ≡ true → ltb 256 (size s.erased) ≡ false → can_sweep M s ≡ true
  sweep_passes e small = and_from _ _ e (ap not (ap (λ (r : Result (Unit {0}) Refusal × State). passed_over r.0) (passed (sweep_bars s) s (sweep_found M s s.number (sweep_from M s)) (live, (ap not e, (small, tt)))) ∙ go (sweep_from M s)))
    where
      go : (found : List (List Bool)) → passed_over (sweep_found M s s.number found).0 ≡ false
      go [] = refl
      go (z ∷ found) = ap (λ (r : Result (Unit {0}) Refusal × State). passed_over r.0) (passed (wrong_slip s s.number ∷ []) s (Ok tt, choose M s.erased z (z ∷ found) s) (own_slip, tt))

  sweep_fewer : can_sweep M s ≡ true → Fewer (sweep M s s.number).1
  sweep_fewer p = allowed (sweep_bars s) s _ Fewer (live, (ap not b.0, (sweep_small p, tt))) (go (sweep_from M s))
    where
      b : (any s.erased ≡ true) × (not (passed_over (sweep M s s.number).0) ≡ true)
      b = and_parts (any s.erased) (not (passed_over (sweep M s s.number).0)) p

      go : (found : List (List Bool)) → Fewer (sweep_found M s s.number found).1
      go [] = let i = any_some s.erased b.0 in inl (refl, size_some s.erased i.0 i.1)
      go (z ∷ found) = let i = any_some s.erased b.0 in allowed (wrong_slip s s.number ∷ []) s _ Fewer (own_slip, tt) (inr (size_fewer s.erased s.erased i.0 i.1 i.1))

  pub next_fewer : (w : ℕ) (scratch : List ℕ) → Clean M scratch → (c : Call) → length s.erased ≡ qubits M → next M w scratch s ≡ some c → Fewer (call M s c)
  next_fewer w scratch clean c long e = first (or_else_lem (only_if (on w 1) (peelable M s)) rest₁ c e)
    where
      rest₃ : Option Call
      rest₃ = only_if (on w 8) (sweepable M s)

      rest₂ : Option Call
      rest₂ = or_else (only_if (on w 4) (solvable M scratch s)) rest₃

      rest₁ : Option Call
      rest₁ = or_else (only_if (on w 2) (prunable M s)) rest₂

      sweepy : (b : Bool) → can_sweep M s ≡ b → cond b (some (Sweep s.number)) none ≡ some c → Fewer (call M s c)
      sweepy true q x = subst (λ c. Fewer (call M s c)) (some_is (Sweep s.number) c x) (sweep_fewer q)
      sweepy false q x = never c x

      third : (only_if (on w 4) (solvable M scratch s) ≡ some c) ⊎ (rest₃ ≡ some c) → Fewer (call M s c)
      third (inl x) =
          let r = as_call_lem (λ q. Solve s.number q scratch) (first_that (can_solve M scratch s) (range_with_len 0 (qubits M))) c (only_if_lem (on w 4) (solvable M scratch s) c x) in
          let f = first_that_lem (can_solve M scratch s) 0 (qubits M) r.0 r.1 in
          subst (λ c. Fewer (call M s c)) r.2 (solve_fewer scratch clean r.0 f.0 (omega (arith, f.1)))
      third (inr x) = sweepy (can_sweep M s) refl (only_if_lem (on w 8) (sweepable M s) c x)

      second : (only_if (on w 2) (prunable M s) ≡ some c) ⊎ (rest₂ ≡ some c) → Fewer (call M s c)
      second (inl x) =
          let r = as_call_lem (λ g. Prune s.number (lowest (row M.generators g)) (g ∷ [])) (first_that (all_erased M s) (range_with_len 0 (length M.generators))) c (only_if_lem (on w 2) (prunable M s) c x) in
          let f = first_that_lem (all_erased M s) 0 (length M.generators) r.0 r.1 in
          subst (λ c. Fewer (call M s c)) r.2 (prune_fewer r.0 f.0 (omega (arith, f.1)) long)
      second (inr x) = third (or_else_lem (only_if (on w 4) (solvable M scratch s)) rest₃ c x)

      first : (only_if (on w 1) (peelable M s) ≡ some c) ⊎ (rest₁ ≡ some c) → Fewer (call M s c)
      first (inl x) =
          let r = as_call_lem (λ c. Peel s.number c) (first_that (dangling M s) (range_with_len 0 (length M.checks))) c (only_if_lem (on w 1) (peelable M s) c x) in
          let f = first_that_lem (dangling M s) 0 (length M.checks) r.0 r.1 in
          subst (λ c. Fewer (call M s c)) r.2 (peel_fewer r.0 f.0 (omega (arith, f.1)))
      first (inr x) = second (or_else_lem (only_if (on w 2) (prunable M s)) rest₂ c x)
