-- Counting the common places of two rows counts their common qubits, where no row names a qubit twice.
use Rattle.std.proofs.Common.{◌≡◌, ℕ, ◌+◌, ◌%◌, ◌<◌, Bool, true, false, cond, ◌||◌, eqb, count_by, List, [], ◌∷◌, map, length, sym, refl, ap, ◌∙◌, inl, inr, arith, eqb-true, eq-eqb, ne_eqb}
use borrow.Author.Tests.{eqb-false}
use Rattle.std.specs.List.{list_any}
use Rattle.std.proofs.lemmas.List.Sums.{sum_by-cons}
use Rattle.std.proofs.lemmas.Bool.{or_parts, not_from_false, not-true}
use Rattle.sets.specs.Bits.{flip}
use Rattle.sets.specs.Lists.{In}
use Rattle.sets.specs.Sets.{marks, any, odd, among, repeats}
use Rattle.sets.proofs.Any.{any_same}
use Rattle.sets.proofs.Bits.{same}
use Rattle.sets.proofs.Marks.{length_marks, has_marks, odd_set}
use Rattle.sets.proofs.Sets.{odd_comm, odd_empty}
use Rattle.meaning.specs.Codes.{Names}
use Rattle.listed.specs.Fault.{law_fails}
use Rattle.listed.specs.Shares.{shares_odd, shares_odd_with}

module _ (n : ℕ) (g : List ℕ) (low-g : (q : ℕ) → In q g → q < n) where
  shares_odd_lem : (c : List ℕ) → ((q : ℕ) → In q c → q < n) → repeats c ≡ false → odd (marks n c) (marks n g) ≡ shares_odd c g
  shares_odd_lem [] low once = odd_comm (marks n []) (marks n g) ∙ odd_empty (marks n g) n
  shares_odd_lem (q ∷ c) low once =
      let e = or_parts (among q c) (repeats c) once in
      let low' : (p : ℕ) → In p c → p < n = λ p m. low p (inr m) in
      let h : q < length (marks n c) = omega (arith, low q (inl refl), length_marks n c) in
      odd_set (marks n c) (marks n g) q h (has_marks n c low' q ∙ e.0)
      ∙ ap (λ b. flip b (odd (marks n c) (marks n g))) (has_marks n g low-g q)
      ∙ ap (flip (among q g)) (shares_odd_lem c low' e.1)

eqb_turned : (p q : ℕ) → eqb p q ≡ eqb q p
eqb_turned p q = same _ _ (λ e. eq-eqb q p (sym (eqb-true p q e))) (λ e. eq-eqb p q (sym (eqb-true q p e)))

pub among_is : (g : List ℕ) (q : ℕ) → list_any (λ p. eqb p q) g ≡ among q g
among_is [] q = refl
among_is (p ∷ g) q = λ i. eqb_turned p q i || among_is g q i

-- whether a count is odd, after a step
odd_step : (b : Bool) (n : ℕ) → eqb ((cond b 1 0 + n) % 2) 1 ≡ flip b (eqb (n % 2) 1)
odd_step true n =
    same _ _ (λ e. not_from_false _ (ne_eqb (n % 2) 1 (λ z. absurd (omega (arith, eqb-true ((1 + n) % 2) 1 e, z)))))
    (λ e. eq-eqb ((1 + n) % 2) 1 (omega (arith, eqb-false (n % 2) 1 (not-true _ e))))
odd_step false n = let z : 0 + n ≡ n = omega arith in ap (λ n. eqb (n % 2) 1) z

-- counting the common places tells whether they are odd in number
pub odd_count : (g c : List ℕ) → eqb (count_by (λ q. list_any (λ p. eqb p q) g) c % 2) 1 ≡ shares_odd c g
odd_count g [] = refl
odd_count g (q ∷ c) =
    ap (λ n. eqb (n % 2) 1) (sum_by-cons (λ q. cond (list_any (λ p. eqb p q) g) 1 0) q c)
    ∙ odd_step (list_any (λ p. eqb p q) g) (count_by (λ q. list_any (λ p. eqb p q) g) c)
    ∙ (λ i. flip (among_is g q i) (odd_count g c i))

pub law_fails_lem : (n : ℕ) (checks generators : List (List ℕ)) → Names n checks → Names n generators → any (map (shares_odd_with generators) checks) ≡ law_fails n checks generators
law_fails_lem n checks generators cs gs =
    any_same (shares_odd_with generators) (λ c. any (map (λ g. odd (marks n c) (marks n g)) generators)) checks
    (λ c m. any_same (shares_odd c) (λ g. odd (marks n c) (marks n g)) generators (λ g k. sym (shares_odd_lem n g (gs.low g k) c (cs.low c m) (cs.once c m))))
