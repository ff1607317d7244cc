-- Sweep, peel and prune keep what is true of a trial.
use Rattle.std.proofs.Common.{◌≡◌, ℕ, ◌^◌, Bool, true, false, cond, not, ◌&&◌, eqb, ◌⊎◌, List, [], ◌∷◌, length, sym, refl, ap, ◌∙◌, subst, inl, inr, eqb-true}
use Rattle.std.proofs.lemmas.Bool.{cases_Bool, and_parts, and_from, or_cases, or_left, or_parts, not-true, not-false}
use mathlib.Core.Bool.{false≢true}
use lib.ListN.{length-replicate, length-map}
use Rattle.sets.specs.Sets.{odd, has, row, empty, only, size, within, holders, meets}
use Rattle.sets.specs.Lists.{In, Exactly}
use Rattle.sets.proofs.Bits.{clash, same, flip_cases}
use Rattle.sets.proofs.Sets.{has_plus, has_meet, has_empty, length_over, ext, odd_apart, only_other, length_only, within_has, row_in, odd_one}
use Rattle.sets.proofs.Numbers.{eqb_same}
use Rattle.meaning.specs.Meaning.{Meaning, Sound, qubits}
use Rattle.linear.proofs.Count.{exactly_one}
use Rattle.rules.specs.Reports.{Report, For, Fits, product, Named}
use Rattle.rules.specs.States.{State, finish, count}
use Rattle.rules.specs.Systems.{solutions, slack}
use Rattle.rules.specs.Clusters.{touched}
use Rattle.rules.specs.Calls.{held, some_outside}
use Rattle.rules.specs.Moves.{sweep_from}
use Rattle.rules.proofs.Split.{Under, Sys, rest, part, cut}
use Rattle.rules.proofs.Solutions.{of_solutions, in_solutions, listed, power}
use Rattle.rules.proofs.Core.{core_flip, hopeless}
use Rattle.rules.proofs.Prune.{core_prune}
use Rattle.rules.proofs.Shelf.{left_of, Inv, inv_finish, inv_fill}
use Rattle.rules.proofs.Cluster.{is_touched, of_touched}
use Rattle.sets.proofs.Sizes.{one_of}

-- as many solutions as the slack says
pub many : (n : ℕ) (C : List (List Bool)) (K A s : List Bool) (k : length K ≡ n) (a : length A ≡ length C) → ((c : List Bool) → In c C → length c ≡ n) → (z : List Bool) → In z (solutions C K A s)
    → Exactly (2 ^ slack (solutions C K A s)) (Sys n C (has K) (has A) (has s))
many n C K A s k a w z m =
    elim (power n C K A s k a w) [
      | inl e ↦ absurd (subst (In z) e m)
      | inr e ↦ subst (λ (t : ℕ). Exactly t (Sys n C (has K) (has A) (has s))) e (listed n C K A s k a)
    ]

-- a product of generators whose qubits are all erased is erased
pub product_erased : (M : Meaning) (erased : List Bool) (l : List ℕ) → some_outside M.generators erased l ≡ false → (i : ℕ) → has (product M l) i ≡ true → has erased i ≡ true
product_erased M erased [] e i t = absurd (clash t (has_empty (qubits M) i))
product_erased M erased (g ∷ l) e i t = go (flip_cases (has (row M.generators g) i) (has (product M l) i) (sym (has_plus (row M.generators g) (product M l) i) ∙ t)) (λ k. product_erased M erased l b.1 i k)
  where
    b : (not (within (row M.generators g) erased) ≡ false) × (some_outside M.generators erased l ≡ false)
    b = or_parts (not (within (row M.generators g) erased)) (some_outside M.generators erased l) e

    go : (has (row M.generators g) i ≡ true) ⊎ (has (product M l) i ≡ true) → (has (product M l) i ≡ true → has erased i ≡ true) → has erased i ≡ true
    go (inl p) ih = within_has (row M.generators g) erased (not-false (within (row M.generators g) erased) b.0) i p
    go (inr p) ih = ih p

module _ (M : Meaning) (sound : Sound M) (R : Report) (for : For M R) where
  pub touched_long : (s : State) (k : List Bool) → length s.closed ≡ length M.checks → length (touched M s k) ≡ length M.checks
  touched_long s k l = length_over (λ x y. x && not y) (holders M.checks k) s.closed (length M.checks) (length-map M.checks (λ c. meets c k)) l

  -- what is even on every open check that holds one of k, and lies in k, is even on every open check
  pub even_open : (s : State) (k x : List Bool) → length s.erased ≡ qubits M → Under (qubits M) (has k) x → (d : ℕ) → has s.closed d ≡ false → (has (touched M s k) d ≡ true → odd (row M.checks d) x ≡ false) → odd (row M.checks d) x ≡ false
  even_open s k x l u d o h = elim (cases_Bool (has (touched M s k) d)) [ inl t ↦ h t | inr t ↦ odd_apart (row M.checks d) x (λ i p q. clash (is_touched M sound s l k d i o p (u.inside i q)) t) ]

  -- Sweep
  module _ (s : State) (h : Inv M sound R for s) where
    sweep_apart : (d : ℕ) → has (touched M s s.erased) d ≡ true → (i : ℕ) → has (row M.checks d) i ≡ true → rest (left_of s) (has s.erased) i ≡ true → ⊥
    sweep_apart d t i p e =
        let r = of_touched M sound s h.erased_long s.erased d t in
        let b = and_parts (left_of s i) (not (has s.erased i)) e in
        elim (or_cases (has s.erased i) (has s.shelved i) b.0) [
          | inl q ↦ clash q (not-true (has s.erased i) b.1)
          | inr q ↦ h.parts d (sym (h.closed_is d) ∙ r.0) r.1 i r.2 r.3 p (sym (h.shelved_is i) ∙ q)
        ]

    sweep_fill : (x : List Bool) → Under (qubits M) (has s.erased) x → ((d : ℕ) → has (touched M s s.erased) d ≡ true → odd (row M.checks d) x ≡ false)
        → (w : List Bool) × Under (qubits M) (rest (left_of s) (has s.erased)) w × ((d : ℕ) → odd (row M.checks d) w ≡ odd (row M.checks d) x)
    sweep_fill x u even = inv_fill M sound R for s (has s.erased) h (λ i e. e) x (λ d o. even_open s s.erased x h.erased_long u d (h.closed_is d ∙ o) (even d))

    sweep_sub : (i : ℕ) → has s.erased i ≡ true → left_of s i ≡ true
    sweep_sub i e = or_left (has s.erased i) (has s.shelved i) e

    pub sweep_inv : (z : List Bool) → In z (sweep_from M s) → Inv M sound R for (count 0 0 (slack (sweep_from M s)) (finish M s.erased z s))
    sweep_inv z m =
        inv_finish M sound R for s s.erased z 0 0 (slack (sweep_from M s)) h h.erased_long (λ i e. e)
        (of_solutions (qubits M) M.checks s.erased (touched M s s.erased) s.odds h.erased_long (touched_long s s.erased h.closed_long) z m).under.inside
        (core_flip M sound R for h.core (has s.erased) (has (touched M s s.erased)) sweep_sub sweep_apart sweep_fill z
        (of_solutions (qubits M) M.checks s.erased (touched M s s.erased) s.odds h.erased_long (touched_long s s.erased h.closed_long) z m)
        (slack (sweep_from M s))
        (many (qubits M) M.checks s.erased (touched M s s.erased) s.odds h.erased_long (touched_long s s.erased h.closed_long) sound.checks_range z m)
        )

    pub sweep_none : sweep_from M s ≡ [] → (e : List Bool) → ¬ Fits M R e
    sweep_none e0 = hopeless M sound R for h.core (λ y r.
        subst (In (cut (has s.erased) y)) e0
        (in_solutions (qubits M) M.checks s.erased (touched M s s.erased) s.odds h.erased_long (touched_long s s.erased h.closed_long) (cut (has s.erased) y)
        (part (qubits M) M.checks (left_of s) (has s.odds) (has s.erased) (has (touched M s s.erased)) sweep_sub sweep_apart y r)))

    -- Peel
    module _ (c : ℕ) (o : has s.closed c ≡ false) (one : size (held M s c) ≡ 1) where
      abbrev q : ℕ
      q = (one_of (held M s c) one).0

      q_in : has (held M s c) q ≡ true
      q_in = (one_of (held M s c) one).1

      q_only : (i : ℕ) → has (held M s c) i ≡ true → i ≡ q
      q_only = (one_of (held M s c) one).2

      of_held : (i : ℕ) → has (held M s c) i ≡ true → (has (row M.checks c) i ≡ true) × (has s.erased i ≡ true)
      of_held i e = and_parts (has (row M.checks c) i) (has s.erased i) (sym (has_meet (row M.checks c) s.erased i) ∙ e)

      pub held_long : length (held M s c) ≡ qubits M
      held_long = length_over ◌&&◌ (row M.checks c) s.erased (qubits M) (row_long (row_in M.checks c)) h.erased_long
        where
          row_long : In (row M.checks c) M.checks ⊎ (row M.checks c ≡ []) → length (row M.checks c) ≡ qubits M
          row_long (inl m) = sound.checks_range (row M.checks c) m
          row_long (inr e) = absurd (false≢true (ap (λ t. has t q) (sym e) ∙ (of_held q q_in).0))

      peel_sub : (i : ℕ) → has (held M s c) i ≡ true → left_of s i ≡ true
      peel_sub i e = or_left (has s.erased i) (has s.shelved i) (of_held i e).1

      peel_apart : (d : ℕ) → eqb c d ≡ true → (i : ℕ) → has (row M.checks d) i ≡ true → rest (left_of s) (has (held M s c)) i ≡ true → ⊥
      peel_apart d t i p e =
          let g : c ≡ d = eqb-true c d t in
          let p' : has (row M.checks c) i ≡ true = ap (λ (x : ℕ). has (row M.checks x) i) g ∙ p in
          let b = and_parts (left_of s i) (not (has (held M s c) i)) e in
          elim (or_cases (has s.erased i) (has s.shelved i) b.0) [
            | inl r ↦ clash (has_meet (row M.checks c) s.erased i ∙ and_from _ _ p' r) (not-true (has (held M s c) i) b.1)
            | inr r ↦ h.parts c (sym (h.closed_is c) ∙ o) q i (of_held q q_in).0 (of_held q q_in).1 p' (sym (h.shelved_is i) ∙ r)
          ]

      odd_at : (x : List Bool) → Under (qubits M) (has (held M s c)) x → odd (row M.checks c) x ≡ has x q
      odd_at x u = odd_one (row M.checks c) x q (of_held q q_in).0 (λ i t. q_only i (u.inside i t))

      peel_fill : (x : List Bool) → Under (qubits M) (has (held M s c)) x → ((d : ℕ) → eqb c d ≡ true → odd (row M.checks d) x ≡ false)
          → (w : List Bool) × Under (qubits M) (rest (left_of s) (has (held M s c))) w × ((d : ℕ) → odd (row M.checks d) w ≡ odd (row M.checks d) x)
      peel_fill x u even = (
        x,
        record { long = u.long; inside = λ i t. absurd (clash (ap (has x) (sym (q_only i (u.inside i t))) ∙ t) (sym (odd_at x u) ∙ even c (eqb_same c))) },
        λ d. refl,
      )

      at_q : (b : Bool) → has (cond b (held M s c) (empty (qubits M))) q ≡ b
      at_q true = q_in
      at_q false = has_empty (qubits M) q

      z_under : (b : Bool) → Under (qubits M) (has (held M s c)) (cond b (held M s c) (empty (qubits M)))
      z_under true = record { long = held_long; inside = λ i e. e }
      z_under false = record { long = length-replicate (qubits M) false; inside = λ i e. absurd (clash e (has_empty (qubits M) i)) }

      peel_solves : Sys (qubits M) M.checks (has (held M s c)) (eqb c) (has s.odds) (cond (has s.odds c) (held M s c) (empty (qubits M)))
      peel_solves =
          record {
            under = z_under (has s.odds c);
            told = λ d t. subst (λ (x : ℕ). odd (row M.checks x) (cond (has s.odds c) (held M s c) (empty (qubits M))) ≡ has s.odds x) (eqb-true c d t) (odd_at (cond (has s.odds c) (held M s c) (empty (qubits M))) (z_under (has s.odds c)) ∙ at_q (has s.odds c));
          }

      peel_one : Exactly 1 (Sys (qubits M) M.checks (has (held M s c)) (eqb c) (has s.odds))
      peel_one = exactly_one (cond (has s.odds c) (held M s c) (empty (qubits M))) peel_solves (λ y S. agree y S.under (sym (odd_at y S.under) ∙ S.told c (eqb_same c)))
        where
          agree : (y : List Bool) → Under (qubits M) (has (held M s c)) y → has y q ≡ has s.odds c → y ≡ cond (has s.odds c) (held M s c) (empty (qubits M))
          agree y u e =
              ext y (cond (has s.odds c) (held M s c) (empty (qubits M))) (u.long ∙ sym (z_under (has s.odds c)).long)
              (λ i. same (has y i) (has (cond (has s.odds c) (held M s c) (empty (qubits M))) i)
              (λ t. let g : i ≡ q = q_only i (u.inside i t) in ap (has (cond (has s.odds c) (held M s c) (empty (qubits M)))) g ∙ at_q (has s.odds c) ∙ sym e ∙ ap (has y) (sym g) ∙ t)
              (λ t. let g : i ≡ q = q_only i ((z_under (has s.odds c)).inside i t) in ap (has y) g ∙ e ∙ sym (at_q (has s.odds c)) ∙ ap (has (cond (has s.odds c) (held M s c) (empty (qubits M)))) (sym g) ∙ t))

      pub peel_inv : Inv M sound R for (count 1 0 0 (finish M (held M s c) (cond (has s.odds c) (held M s c) (empty (qubits M))) s))
      peel_inv =
          inv_finish M sound R for s (held M s c) (cond (has s.odds c) (held M s c) (empty (qubits M))) 1 0 0 h held_long (λ i e. (of_held i e).1) peel_solves.under.inside
          (core_flip M sound R for h.core (has (held M s c)) (eqb c) peel_sub peel_apart peel_fill (cond (has s.odds c) (held M s c) (empty (qubits M))) peel_solves 0 peel_one)

    -- Prune
    pub prune_inv : (q : ℕ) (l : List ℕ) → Named M l → some_outside M.generators s.erased l ≡ false → has (product M l) q ≡ true → Inv M sound R for (count 0 1 0 (finish M (only (qubits M) q) (empty (qubits M)) s))
    prune_inv q l named out on =
        inv_finish M sound R for s (only (qubits M) q) (empty (qubits M)) 0 1 0 h (length_only (qubits M) q) (λ i e. ap (has s.erased) (only_other (qubits M) q i e) ∙ product_erased M s.erased l out q on)
        (λ i e. absurd (clash e (has_empty (qubits M) i)))
        (core_prune M sound R for h.core q l named (λ i t. or_left (has s.erased i) (has s.shelved i) (product_erased M s.erased l out i t)) on)
