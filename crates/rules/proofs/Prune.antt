-- A trial as it is opened, and one qubit pruned.
use Rattle.std.proofs.Common.{◌≡◌, ℕ, ◌+◌, ◌*◌, ◌^◌, ◌<◌, Bool, true, false, not, ◌&&◌, ◌||◌, eqb, ◌⊎◌, List, [], ◌∷◌, ◌++◌, length, sym, refl, ap, ◌∙◌, subst, inl, inr, arith, length-append, eqb-true}
use Rattle.std.proofs.lemmas.Bool.{cases_Bool, and_from, or_cases, or_left, false_from_ne_true, not_from_false, not-false}
use mathlib.Core.Bool.{false≢true}
use lib.ListN.{length-replicate}
use Rattle.sets.specs.Bits.{flip}
use Rattle.sets.specs.Sets.{odd, has, row, plus, empty, only}
use Rattle.sets.specs.Lists.{In, Exactly}
use Rattle.sets.proofs.Bits.{clash, flip_cases}
use Rattle.sets.proofs.Sets.{has_plus, has_empty, has_below, length_over, ext, odd_plus, odd_empty, only_self, only_other, length_only}
use Rattle.meaning.specs.Meaning.{Meaning, Sound, qubits}
use Rattle.linear.proofs.Count.{exactly_iff}
use Rattle.rules.specs.Reports.{Report, For, Fits, product, Named}
use Rattle.rules.proofs.Split.{Under, Res, Sys, rest, turned, under_more}
use Rattle.rules.proofs.Core.{Core, chain_less, chain_snoc, core_step, fits_res, res_fits, product_long, product_even}

module _ (M : Meaning) (sound : Sound M) (R : Report) (for : For M R) where
  pub core_open : Core M sound R for (λ i. has R.lost i || has (empty (qubits M)) i) (empty (qubits M)) (has R.odds) 0 0
  core_open =
      record {
        long = length-replicate (qubits M) false;
        lost = λ i e. absurd (clash e (has_empty (qubits M) i));
        still = still;
        told = λ d. ap (λ t. flip t (has R.odds d)) (odd_empty (row M.checks d) (qubits M));
        counts = λ N E. subst (λ (t : ℕ). Exactly t (Fits M R)) (one N) (exactly_iff N (λ y. (λ r. res_fits M sound R for y (record { under = under_more (qubits M) M.checks still r.under; told = r.told }), λ f. more y (fits_res M sound R for y f))) E);
        cuts = [];
        chain = tt;
        cuts_many = refl;
      }
    where
      still : (i : ℕ) → (has R.lost i || has (empty (qubits M)) i) ≡ true → has R.lost i ≡ true
      still i e = elim (or_cases (has R.lost i) (has (empty (qubits M)) i) e) [ inl p ↦ p | inr p ↦ absurd (clash p (has_empty (qubits M) i)) ]

      more : (y : List Bool) → Res (qubits M) M.checks (has R.lost) (has R.odds) y → Res (qubits M) M.checks (λ i. has R.lost i || has (empty (qubits M)) i) (has R.odds) y
      more y r = record { under = under_more (qubits M) M.checks (λ i q. or_left (has R.lost i) (has (empty (qubits M)) i) q) r.under; told = r.told }

      one : (N : ℕ) → N ≡ 2 ^ (0 + 0) * N
      one N = omega arith

  module _ {U : ℕ → Bool} {X : List Bool} {s : ℕ → Bool} {p c : ℕ} (h : Core M sound R for U X s p c)
      (q : ℕ) (l : List ℕ) (named : Named M l) (inside : (i : ℕ) → has (product M l) i ≡ true → U i ≡ true) (holds : has (product M l) q ≡ true) where
    below : q < qubits M
    below = let a : q < length (product M l) = has_below (product M l) q holds in omega (arith, product_long M sound l named)

    K-self : has (only (qubits M) q) q ≡ true
    K-self = only_self (qubits M) q below

    empty_under : (V : ℕ → Bool) → Under (qubits M) V (empty (qubits M))
    empty_under V = record { long = length-replicate (qubits M) false; inside = λ i e. absurd (clash e (has_empty (qubits M) i)) }

    many : Exactly 2 (Sys (qubits M) M.checks (has (only (qubits M) q)) (λ _. false) s)
    many =
        record {
          all = empty (qubits M) ∷ only (qubits M) q ∷ [];
          lists =
              record {
                distinct = (λ m. elim m [ inl e ↦ clash (ap (λ x. has x q) e ∙ K-self) (has_empty (qubits M) q) | inr m' ↦ m' ], (λ m. m, tt));
                sound = λ x m. record { under = within_one x m; told = λ d e. absurd (false≢true e) };
                complete = λ x S. cases x S.under (cases_Bool (has x q));
              };
          count = refl;
        }
      where
        within_one : (x : List Bool) → In x (empty (qubits M) ∷ only (qubits M) q ∷ []) → Under (qubits M) (has (only (qubits M) q)) x
        within_one x (inl e) = subst (Under (qubits M) (has (only (qubits M) q))) (sym e) (empty_under (has (only (qubits M) q)))
        within_one x (inr (inl e)) = subst (Under (qubits M) (has (only (qubits M) q))) (sym e) (record { long = length_only (qubits M) q; inside = λ i t. t })
        within_one x (inr (inr m)) = absurd m

        cases : (x : List Bool) → Under (qubits M) (has (only (qubits M) q)) x → (has x q ≡ true) ⊎ (has x q ≡ false) → In x (empty (qubits M) ∷ only (qubits M) q ∷ [])
        cases x u (inl e) = inr (inl (ext x (only (qubits M) q) (u.long ∙ sym (length_only (qubits M) q)) (λ i. bit i (cases_Bool (has x i)))))
          where
            bit : (i : ℕ) → (has x i ≡ true) ⊎ (has x i ≡ false) → has x i ≡ has (only (qubits M) q) i
            bit i (inl t) = t ∙ sym (u.inside i t)
            bit i (inr t) = t ∙ sym (false_from_ne_true (has (only (qubits M) q) i) (λ k. clash (ap (has x) (only_other (qubits M) q i k) ∙ e) t))
        cases x u (inr e) = inl (ext x (empty (qubits M)) (u.long ∙ sym (length-replicate (qubits M) false)) (λ i. false_from_ne_true (has x i) (λ t. clash (ap (has x) (sym (only_other (qubits M) q i (u.inside i t))) ∙ t) e) ∙ sym (has_empty (qubits M) i)))

    sub : (i : ℕ) → has (only (qubits M) q) i ≡ true → U i ≡ true
    sub i e = ap U (only_other (qubits M) q i e) ∙ inside q holds

    fill : (x : List Bool) → Under (qubits M) (has (only (qubits M) q)) x → ((d : ℕ) → false ≡ true → odd (row M.checks d) x ≡ false)
        → (w : List Bool) × Under (qubits M) (rest U (has (only (qubits M) q))) w × ((d : ℕ) → odd (row M.checks d) w ≡ odd (row M.checks d) x)
    fill x u _ = go (cases_Bool (has x q))
      where
        go : (has x q ≡ true) ⊎ (has x q ≡ false) → (w : List Bool) × Under (qubits M) (rest U (has (only (qubits M) q))) w × ((d : ℕ) → odd (row M.checks d) w ≡ odd (row M.checks d) x)
        go (inl e) = (
          plus (product M l) x,
          record {
            long = length_over flip (product M l) x (qubits M) (product_long M sound l named) u.long;
            inside = λ i t. and_from _ _ (into i (flip_cases (has (product M l) i) (has x i) (sym (has_plus (product M l) x i) ∙ t))) (not_from_false (has (only (qubits M) q) i) (false_from_ne_true (has (only (qubits M) q) i) (λ k. clash (sym (has_plus (product M l) x i) ∙ t) (both i (only_other (qubits M) q i k)))));
          },
          λ d. odd_plus (row M.checks d) (product M l) x ∙ ap (λ t. flip t (odd (row M.checks d) x)) (product_even M sound l named d),
        )
          where
            into : (i : ℕ) → (has (product M l) i ≡ true) ⊎ (has x i ≡ true) → U i ≡ true
            into i (inl t) = inside i t
            into i (inr t) = sub i (u.inside i t)

            both : (i : ℕ) → i ≡ q → flip (has (product M l) i) (has x i) ≡ false
            both i k = ap (λ (j : ℕ). flip (has (product M l) j) (has x j)) k ∙ ap (λ t. flip t (has x q)) holds ∙ ap not e
        go (inr e) = (
          x,
          record { long = u.long; inside = λ i t. absurd (clash (ap (has x) (sym (only_other (qubits M) q i (u.inside i t))) ∙ t) e) },
          λ d. refl,
        )

    pub core_prune : Core M sound R for (rest U (has (only (qubits M) q))) (plus X (empty (qubits M))) (turned (qubits M) M.checks s (empty (qubits M))) (p + 1) (c + 0)
    core_prune =
        core_step M sound R for h (has (only (qubits M) q)) (λ _. false) sub (λ d t. absurd (false≢true t)) fill (empty (qubits M))
        (record { under = empty_under (has (only (qubits M) q)); told = λ d t. absurd (false≢true t) }) 1 many (p + 1) (c + 0) (omega arith)
        (h.cuts ++ (record { list = l; pruned = q } ∷ []))
        (chain_less M sound (has R.lost) (λ i. U i && not (eqb q i)) (rest U (has (only (qubits M) q))) (h.cuts ++ (record { list = l; pruned = q } ∷ [])) (λ i e. gone i (U i) e) (chain_snoc M sound (has R.lost) U h.cuts (record { list = l; pruned = q }) h.chain named inside h.still holds))
        (length-append h.cuts (record { list = l; pruned = q } ∷ []) ∙ ap (λ (t : ℕ). t + 1) h.cuts_many)
      where
        gone : (i : ℕ) (b : Bool) → (b && not (eqb q i)) ≡ false → (b && not (has (only (qubits M) q) i)) ≡ false
        gone i true e = ap not (ap (has (only (qubits M) q)) (sym (eqb-true q i (not-false (eqb q i) e))) ∙ K-self)
        gone i false e = refl
