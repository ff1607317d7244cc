-- Solve keeps what is true of a trial: the cluster's least solution is flipped, or the cluster is shelved.
use Rattle.std.proofs.Common.{◌≡◌, ℕ, ◌<◌, ◌≤◌, Bool, true, false, not, ◌&&◌, ◌||◌, eqb, ◌⊎◌, List, [], ◌∷◌, length, set, sym, refl, ap, ◌∙◌, subst, inl, inr, true≢false, arith, length-set, get_or-set_other, get_or-set_same, eqb-true}
use Rattle.std.proofs.lemmas.Bool.{cases_Bool, and_parts, and_from, or_cases, or_left, or_parts, or_from, not-true, not-false, not_from_false, false_from_ne_true}
use mathlib.Core.Bool.{false≢true}
use lib.ListN.{length-map}
use Rattle.sets.specs.Sets.{odd, has, row, join, less, any, size, lowest, holders, meets}
use Rattle.sets.specs.Lists.{In}
use Rattle.sets.proofs.Bits.{clash}
use Rattle.sets.proofs.Sets.{has_less, has_meet, has_join, has_below, has_any, length_over}
use Rattle.sets.proofs.Numbers.{eqb_same}
use Rattle.meaning.specs.Meaning.{Meaning, Sound, qubits}
use Rattle.rules.specs.Reports.{Report, For, Fits}
use Rattle.rules.specs.States.{State, finish, count, shelve}
use Rattle.rules.specs.Systems.{solutions, slack}
use Rattle.rules.specs.Clusters.{touched, cluster, internal, other_side, free}
use Rattle.rules.specs.Moves.{solve_from, connects}
use Rattle.rules.proofs.Split.{Under, Sys, rest, part, cut}
use Rattle.rules.proofs.Solutions.{of_solutions, in_solutions}
use Rattle.rules.proofs.Core.{core_cong, core_flip, hopeless}
use Rattle.rules.proofs.Shelf.{closed_by, shelved_by, Firm, left_of, kept_cong, Inv, inv_finish, inv_fill}
use Rattle.rules.proofs.Cluster.{is_touched, of_touched, cluster_long, cluster_erased, internal_apart}
use Rattle.sets.proofs.Sizes.{one_only, lowest_has}
use Rattle.rules.proofs.Steps.{many, touched_long, even_open}

module _ (M : Meaning) (sound : Sound M) (R : Report) (for : For M R) (s : State) (h : Inv M sound R for s) where
  module _ (q : ℕ) (on : has s.erased q ≡ true) where
    abbrev K : List Bool
    K = cluster M s q

    K-long : length (cluster M s q) ≡ qubits M
    K-long = cluster_long M sound s h.erased_long q on

    K-erased : (i : ℕ) → has (cluster M s q) i ≡ true → has s.erased i ≡ true
    K-erased = cluster_erased M sound s h.erased_long q on

    connects_long : length (connects M s q) ≡ length M.checks
    connects_long = length_over ◌&&◌ (touched M s K) (holders M.checks (other_side M s q)) (length M.checks) (touched_long M sound R for s K h.closed_long) (length-map M.checks (λ c. meets c (other_side M s q)))

    internal_long : length (internal M s q K) ≡ length M.checks
    internal_long = length_over (λ x y. x && not y) (touched M s K) (connects M s q) (length M.checks) (touched_long M sound R for s K h.closed_long) connects_long

    of_internal : (d : ℕ) → has (internal M s q (cluster M s q)) d ≡ true → (has (touched M s (cluster M s q)) d ≡ true) × (has (connects M s q) d ≡ false)
    of_internal d e =
        let r = and_parts (has (touched M s K) d) (not (has (connects M s q) d)) (sym (has_less (touched M s K) (connects M s q) d) ∙ e) in
        (r.0, not-true (has (connects M s q) d) r.1)

    is_internal : (d : ℕ) → has (touched M s (cluster M s q)) d ≡ true → has (connects M s q) d ≡ false → has (internal M s q (cluster M s q)) d ≡ true
    is_internal d t e = has_less (touched M s K) (connects M s q) d ∙ and_from _ _ t (not_from_false (has (connects M s q) d) e)

    of_connects : (d : ℕ) → has (connects M s q) d ≡ true → has (touched M s (cluster M s q)) d ≡ true
    of_connects d e = (and_parts (has (touched M s K) d) (has (holders M.checks (other_side M s q)) d) (sym (has_meet (touched M s K) (holders M.checks (other_side M s q)) d) ∙ e)).0

    open_of : (d : ℕ) → has (touched M s (cluster M s q)) d ≡ true → closed_by s.shelf d ≡ false
    open_of d t = sym (h.closed_is d) ∙ (of_touched M sound s h.erased_long K d t).0

    solve_sub : (i : ℕ) → has (cluster M s q) i ≡ true → left_of s i ≡ true
    solve_sub i e = or_left (has s.erased i) (has s.shelved i) (K-erased i e)

    solve_apart : (d : ℕ) → has (internal M s q (cluster M s q)) d ≡ true → (i : ℕ) → has (row M.checks d) i ≡ true → rest (left_of s) (has (cluster M s q)) i ≡ true → ⊥
    solve_apart d t i p e =
        let b = and_parts (left_of s i) (not (has K i)) e in
        let r = of_touched M sound s h.erased_long K d (of_internal d t).0 in
        elim (or_cases (has s.erased i) (has s.shelved i) b.0) [
          | inl x ↦ clash (internal_apart M sound s h.erased_long q on d i t p x) (not-true (has K i) b.1)
          | inr x ↦ h.parts d (sym (h.closed_is d) ∙ r.0) r.1 i r.2 (K-erased r.1 r.3) p (sym (h.shelved_is i) ∙ x)
        ]

    pub solve_none : solve_from M s q ≡ [] → (e : List Bool) → ¬ Fits M R e
    solve_none e0 = hopeless M sound R for h.core (λ y r.
        subst (In (cut (has K) y)) e0
        (in_solutions (qubits M) M.checks K (internal M s q K) s.odds K-long internal_long (cut (has K) y)
        (part (qubits M) M.checks (left_of s) (has s.odds) (has K) (has (internal M s q K)) solve_sub solve_apart y r)))

    module _ (few : size (connects M s q) ≤ 1) where
      -- even on each internal check and odd on a connecting one: a solution of the system whose odd check is that one
      freeing : (x : List Bool) (d : ℕ) → Under (qubits M) (has (cluster M s q)) x → ((d : ℕ) → has (internal M s q (cluster M s q)) d ≡ true → odd (row M.checks d) x ≡ false)
          → has (connects M s q) d ≡ true → odd (row M.checks d) x ≡ true → Sys (qubits M) M.checks (has (cluster M s q)) (has (touched M s (cluster M s q))) (has (connects M s q)) x
      freeing x d u even e o = record { under = u; told = λ k t. go k t (cases_Bool (has (connects M s q) k)) }
        where
          go : (k : ℕ) → has (touched M s K) k ≡ true → (has (connects M s q) k ≡ true) ⊎ (has (connects M s q) k ≡ false) → odd (row M.checks k) x ≡ has (connects M s q) k
          go k t (inl c) = subst (λ (j : ℕ). odd (row M.checks j) x ≡ true) (one_only (connects M s q) few d k e c) o ∙ sym c
          go k t (inr c) = even k (is_internal k t c) ∙ sym c

      -- a frozen check is even wherever the internal ones are
      frozen : free M s (cluster M s q) (connects M s q) ≡ false → (x : List Bool) → Under (qubits M) (has (cluster M s q)) x
          → ((d : ℕ) → has (internal M s q (cluster M s q)) d ≡ true → odd (row M.checks d) x ≡ false) → (d : ℕ) → has (connects M s q) d ≡ true → odd (row M.checks d) x ≡ false
      frozen no_way x u even d e = false_from_ne_true (odd (row M.checks d) x) (λ o. none_left (in_solutions (qubits M) M.checks K (touched M s K) (connects M s q) K-long (touched_long M sound R for s K h.closed_long) x (freeing x d u even e o)))
        where
          len : length (solutions M.checks K (touched M s K) (connects M s q)) ≡ 0
          len = eqb-true (length (solutions M.checks K (touched M s K) (connects M s q))) 0 (not-false (eqb (length (solutions M.checks K (touched M s K) (connects M s q))) 0) (deny_and (any (connects M s q)) (not (eqb (length (solutions M.checks K (touched M s K) (connects M s q))) 0)) (has_any (connects M s q) d e) no_way))
            where
              deny_and : (a b : Bool) → a ≡ true → (a && b) ≡ false → b ≡ false
              deny_and true b p q = q
              deny_and false b p q = absurd (false≢true p)

          none_left : In x (solutions M.checks K (touched M s K) (connects M s q)) → ⊥
          none_left = go (solutions M.checks K (touched M s K) (connects M s q)) len
            where
              go : (l : List (List Bool)) → length l ≡ 0 → In x l → ⊥
              go [] e m = m
              go (y ∷ l) e m = omega arith

      module _ (no_way : free M s (cluster M s q) (connects M s q) ≡ false) where
        solve_fill : (x : List Bool) → Under (qubits M) (has (cluster M s q)) x → ((d : ℕ) → has (internal M s q (cluster M s q)) d ≡ true → odd (row M.checks d) x ≡ false)
            → (w : List Bool) × Under (qubits M) (rest (left_of s) (has (cluster M s q))) w × ((d : ℕ) → odd (row M.checks d) w ≡ odd (row M.checks d) x)
        solve_fill x u even = inv_fill M sound R for s (has K) h K-erased x (λ d o. even_open M sound R for s K x h.erased_long u d (h.closed_is d ∙ o) (λ t. go d t (cases_Bool (has (connects M s q) d))))
          where
            go : (d : ℕ) → has (touched M s K) d ≡ true → (has (connects M s q) d ≡ true) ⊎ (has (connects M s q) d ≡ false) → odd (row M.checks d) x ≡ false
            go d t (inl c) = frozen no_way x u even d c
            go d t (inr c) = even d (is_internal d t c)

        pub solve_inv : (z : List Bool) → In z (solve_from M s q) → Inv M sound R for (count 0 0 (slack (solve_from M s q)) (finish M (cluster M s q) z s))
        solve_inv z m =
            inv_finish M sound R for s K z 0 0 (slack (solve_from M s q)) h K-long K-erased
            (of_solutions (qubits M) M.checks K (internal M s q K) s.odds K-long internal_long z m).under.inside
            (core_flip M sound R for h.core (has K) (has (internal M s q K)) solve_sub solve_apart solve_fill z
            (of_solutions (qubits M) M.checks K (internal M s q K) s.odds K-long internal_long z m)
            (slack (solve_from M s q))
            (many (qubits M) M.checks K (internal M s q K) s.odds K-long internal_long sound.checks_range z m)
            )

      -- the cluster is shelved
      module _ (way : free M s (cluster M s q) (connects M s q) ≡ true) where
        abbrev c : ℕ
        c = lowest (connects M s q)

        c_in : has (connects M s q) (lowest (connects M s q)) ≡ true
        c_in = lowest_has (connects M s q) (and_parts (any (connects M s q)) (not (eqb (length (solutions M.checks K (touched M s K) (connects M s q))) 0)) way).0

        c_only : (d : ℕ) → has (connects M s q) d ≡ true → lowest (connects M s q) ≡ d
        c_only d e = one_only (connects M s q) few (lowest (connects M s q)) d c_in e

        adjusting : (w : List Bool) × Sys (qubits M) M.checks (has (cluster M s q)) (has (touched M s (cluster M s q))) (has (connects M s q)) w
        adjusting = go (solutions M.checks K (touched M s K) (connects M s q)) (not-true (eqb (length (solutions M.checks K (touched M s K) (connects M s q))) 0) (and_parts (any (connects M s q)) (not (eqb (length (solutions M.checks K (touched M s K) (connects M s q))) 0)) way).1) (of_solutions (qubits M) M.checks K (touched M s K) (connects M s q) K-long (touched_long M sound R for s K h.closed_long))
          where
            go : (l : List (List Bool)) → eqb (length l) 0 ≡ false → ((x : List Bool) → In x l → Sys (qubits M) M.checks (has K) (has (touched M s K)) (has (connects M s q)) x) → (w : List Bool) × Sys (qubits M) M.checks (has K) (has (touched M s K)) (has (connects M s q)) w
            go [] e f = absurd (true≢false e)
            go (x ∷ l) e f = (x, f x (inl refl))

        firm : Firm M (record { members = cluster M s q; check = lowest (connects M s q) }) s.shelf
        firm =
            record {
              long = K-long;
              adjuster = adjusting.0;
              adjusts = adjusting.1.under;
              turns = adjusting.1.told c (of_connects c c_in) ∙ c_in;
              keeps = λ d n o. even_open M sound R for s K adjusting.0 h.erased_long adjusting.1.under d (h.closed_is d ∙ o) (λ t. adjusting.1.told d t ∙ false_from_ne_true (has (connects M s q) d) (λ e. n (c_only d e)));
              parts = λ d o i j p k p' t. h.parts d o i j p (K-erased i k) p' t;
              apart = λ i k. h.apart i (K-erased i k);
              fresh = open_of c (of_connects c c_in);
            }

        bits : (e s k : Bool) → (k ≡ true → e ≡ true) → (e || s) ≡ ((e && not k) || (s || k))
        bits true true true f = refl
        bits true true false f = refl
        bits true false true f = refl
        bits true false false f = refl
        bits false true k f = refl
        bits false false true f = f refl
        bits false false false f = refl

        or_swap : (a b : Bool) → (a || b) ≡ (b || a)
        or_swap true true = refl
        or_swap true false = refl
        or_swap false true = refl
        or_swap false false = refl

        pub shelve_inv : (z : List Bool) → In z (solve_from M s q) → Inv M sound R for (shelve (cluster M s q) (lowest (connects M s q)) s)
        shelve_inv z m =
            record {
              erased_long = length_over (λ x y. x && not y) s.erased K (qubits M) h.erased_long K-long;
              shelved_long = length_over ◌||◌ s.shelved K (qubits M) h.shelved_long K-long;
              closed_long = length-set s.closed c true ∙ h.closed_long;
              odds_long = h.odds_long;
              core = core_cong M sound R for
                  (λ i. bits (has s.erased i) (has s.shelved i) (has K i) (K-erased i) ∙ sym (ap (λ t. t || has (join s.shelved K) i) (has_less s.erased K i) ∙ ap (λ t. (has s.erased i && not (has K i)) || t) (has_join s.shelved K i)))
                  (λ d. refl) h.core;
              good = (firm, h.good);
              kept = (
                (z, S.under, λ d o i p k. S.told d (inner d i o p k)),
                kept_cong M (closed_by s.shelf) (λ d. eqb c d || closed_by s.shelf d) (has s.odds) (has s.odds) s.shelf (λ d i o p x. ((or_parts (eqb c d) (closed_by s.shelf d) o).1, refl)) h.kept,
              );
              closed_is = closed_is;
              shelved_is = λ i. has_join s.shelved K i ∙ ap (λ t. t || has K i) (h.shelved_is i) ∙ or_swap (shelved_by s.shelf i) (has K i);
              apart = λ i e. or_from (has K i) (shelved_by s.shelf i) (not-true (has K i) (was i e).1) (h.apart i (was i e).0);
              parts = parts;
            }
          where
            was : (i : ℕ) → has (less s.erased K) i ≡ true → (has s.erased i ≡ true) × (not (has K i) ≡ true)
            was i e = and_parts (has s.erased i) (not (has K i)) (sym (has_less s.erased K i) ∙ e)

            S : Sys (qubits M) M.checks (has K) (has (internal M s q K)) (has s.odds) z
            S = of_solutions (qubits M) M.checks K (internal M s q K) s.odds K-long internal_long z m

            inner : (d j : ℕ) → (eqb c d || closed_by s.shelf d) ≡ false → has (row M.checks d) j ≡ true → has K j ≡ true → has (internal M s q K) d ≡ true
            inner d j o p k =
                let b = or_parts (eqb c d) (closed_by s.shelf d) o in
                is_internal d (is_touched M sound s h.erased_long K d j (h.closed_is d ∙ b.1) p k) (false_from_ne_true (has (connects M s q) d) (λ x. clash (ap (eqb c) (sym (c_only d x)) ∙ eqb_same c) b.0))

            c_below : c < length s.closed
            c_below = let b : c < length (connects M s q) = has_below (connects M s q) c c_in in omega (arith, connects_long, h.closed_long)

            closed_is : (d : ℕ) → has (set s.closed c true) d ≡ (eqb c d || closed_by s.shelf d)
            closed_is d = go (cases_Bool (eqb c d))
              where
                go : (eqb c d ≡ true) ⊎ (eqb c d ≡ false) → has (set s.closed c true) d ≡ (eqb c d || closed_by s.shelf d)
                go (inl e) = subst (λ (x : ℕ). has (set s.closed c true) x ≡ true) (eqb-true c d e) (get_or-set_same s.closed c true false c_below) ∙ sym (ap (λ t. t || closed_by s.shelf d) e)
                go (inr e) = get_or-set_other s.closed c d true false (λ g. clash (ap (eqb c) g ∙ eqb_same c) e) ∙ h.closed_is d ∙ sym (ap (λ t. t || closed_by s.shelf d) e)

            parts : (d : ℕ) → (eqb c d || closed_by s.shelf d) ≡ false → (i j : ℕ) → has (row M.checks d) i ≡ true → has (less s.erased K) i ≡ true → has (row M.checks d) j ≡ true → (has K j || shelved_by s.shelf j) ≡ true → ⊥
            parts d o i j p e p' t =
                let b = or_parts (eqb c d) (closed_by s.shelf d) o in
                elim (or_cases (has K j) (shelved_by s.shelf j) t) [
                  | inl k ↦ clash (internal_apart M sound s h.erased_long q on d i (inner d j o p' k) p (was i e).0) (not-true (has K i) (was i e).1)
                  | inr k ↦ h.parts d b.1 i j p (was i e).0 p' k
                ]
