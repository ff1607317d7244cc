-- Tests on numbers, counted lists, and lists of numbers: what they name, and how often.
use Rattle.std.proofs.Common.{◌≡◌, ℕ, zero, suc, ◌+◌, ◌<◌, ◌≤◌, Bool, true, false, eqb, ◌⊎◌, List, [], ◌∷◌, length, sym, refl, ap, ◌∙◌, subst, inl, inr, true≢false, arith, eq-eqb, eqb-true}
use mathlib.Core.Bool.{false≢true}
use Rattle.std.specs.List.{range_with_len}
use Rattle.std.proofs.lemmas.Bool.{false_from_ne_true, or_cases, or_left, or_right, or_parts, or_from}
use Rattle.sets.specs.Lists.{In, Distinct}
use Rattle.sets.specs.Sets.{has, size, elements_from, elements, among, repeats}
use Rattle.sets.specs.Counts.{ToldOnce}
use Rattle.sets.proofs.Bits.{clash}
use Rattle.sets.proofs.Lists.{at_most}

pub eqb_same : (a : ℕ) → eqb a a ≡ true
eqb_same a = eq-eqb a a refl

pub in_counting : (from n x : ℕ) → In x (range_with_len from n) → (from ≤ x) × (x < from + n)
in_counting from zero x m = absurd m
in_counting from (suc n) x (inl e) = (omega arith, omega arith)
in_counting from (suc n) x (inr m) = let h = in_counting (from + 1) n x m in (omega (arith, h.0), omega (arith, h.1))

-- a number is listed exactly if it stands somewhere in the list
pub in_among : (k : ℕ) (l : List ℕ) → In k l → among k l ≡ true
in_among k [] m = absurd m
in_among k (j ∷ l) (inl e) = or_left (eqb k j) (among k l) (eq-eqb k j e)
in_among k (j ∷ l) (inr m) = or_right (eqb k j) (among k l) (in_among k l m)

pub among_in : (k : ℕ) (l : List ℕ) → among k l ≡ true → In k l
among_in k [] e = absurd (false≢true e)
among_in k (j ∷ l) e = go (or_cases (eqb k j) (among k l) e) (among_in k l)
  where
    go : (eqb k j ≡ true) ⊎ (among k l ≡ true) → (among k l ≡ true → In k l) → In k (j ∷ l)
    go (inl p) ih = inl (eqb-true k j p)
    go (inr p) ih = inr (ih p)

-- a list without repeats is distinct, and the other way round
pub repeats_distinct : (l : List ℕ) → repeats l ≡ false → Distinct l
repeats_distinct [] e = tt
repeats_distinct (k ∷ l) e =
    let p = or_parts (among k l) (repeats l) e in
    (λ m. clash (in_among k l m) p.0, repeats_distinct l p.1)

pub distinct_repeats : (l : List ℕ) → Distinct l → repeats l ≡ false
distinct_repeats [] d = refl
distinct_repeats (k ∷ l) d = or_from (among k l) (repeats l) (false_from_ne_true (among k l) (λ e. d.0 (among_in k l e))) (distinct_repeats l d.1)

-- the elements of a set lie where it counts from, are listed once, and are those that it has
pub elements_low : (from : ℕ) (m : List Bool) (k : ℕ) → In k (elements_from from m) → from ≤ k
elements_low from [] k i = absurd i
elements_low from (true ∷ m) k (inl e) = omega arith
elements_low from (true ∷ m) k (inr i) = omega (arith, elements_low (from + 1) m k i)
elements_low from (false ∷ m) k i = omega (arith, elements_low (from + 1) m k i)

pub elements_distinct : (from : ℕ) (m : List Bool) → Distinct (elements_from from m)
elements_distinct from [] = tt
elements_distinct from (true ∷ m) = (λ i. absurd (omega (arith, elements_low (from + 1) m from i)), elements_distinct (from + 1) m)
elements_distinct from (false ∷ m) = elements_distinct (from + 1) m

pub in_elements : (from : ℕ) (m : List Bool) (k : ℕ) → has m k ≡ true → In (from + k) (elements_from from m)
in_elements from [] k e = absurd (false≢true e)
in_elements from (true ∷ m) zero e = inl (omega arith)
in_elements from (true ∷ m) (suc k) e = inr (subst (λ (j : ℕ). In j (elements_from (from + 1) m)) (omega arith) (in_elements (from + 1) m k e))
in_elements from (false ∷ m) zero e = absurd (false≢true e)
in_elements from (false ∷ m) (suc k) e = subst (λ (j : ℕ). In j (elements_from (from + 1) m)) (omega arith) (in_elements (from + 1) m k e)

pub of_elements : (from : ℕ) (m : List Bool) (k : ℕ) → In (from + k) (elements_from from m) → has m k ≡ true
of_elements from [] k i = absurd i
of_elements from (true ∷ m) zero i = refl
of_elements from (true ∷ m) (suc k) (inl e) = absurd (omega arith)
of_elements from (true ∷ m) (suc k) (inr i) = of_elements (from + 1) m k (subst (λ (j : ℕ). In j (elements_from (from + 1) m)) (omega arith) i)
of_elements from (false ∷ m) zero i = absurd (omega (arith, elements_low (from + 1) m (from + 0) i))
of_elements from (false ∷ m) (suc k) i = of_elements (from + 1) m k (subst (λ (j : ℕ). In j (elements_from (from + 1) m)) (omega arith) i)

pub length_elements : (from : ℕ) (m : List Bool) → length (elements_from from m) ≡ size m
length_elements from [] = refl
length_elements from (true ∷ m) = ap suc (length_elements (from + 1) m)
length_elements from (false ∷ m) = length_elements (from + 1) m

-- the same with the set counted from 0
pub has_element : (m : List Bool) (k : ℕ) → has m k ≡ true → In k (elements m)
has_element m k e = subst (λ (j : ℕ). In j (elements m)) (omega arith) (in_elements 0 m k e)

pub element_has : (m : List Bool) (k : ℕ) → In k (elements m) → has m k ≡ true
element_has m k i = of_elements 0 m k (subst (λ (j : ℕ). In j (elements m)) (omega arith) i)

pub told_once : ToldOnce
told_once ns m once names =
    let there : length ns ≤ length (elements m) = at_most ns (elements m) (repeats_distinct ns once) (λ q i. has_element m q (sym (names q) ∙ in_among q ns i)) in
    let back : length (elements m) ≤ length ns = at_most (elements m) ns (elements_distinct 0 m) (λ q i. among_in q ns (names q ∙ element_has m q i)) in
    let long = length_elements 0 m in
    omega arith

-- sets that have the same numbers have the same elements, whatever their ranges
pub elements_same : (from : ℕ) (m k : List Bool) → ((j : ℕ) → has m j ≡ has k j) → elements_from from m ≡ elements_from from k
elements_same from [] [] e = refl
elements_same from [] (true ∷ k) e = absurd (false≢true (e 0))
elements_same from [] (false ∷ k) e = elements_same (from + 1) [] k (λ j. e (suc j))
elements_same from (true ∷ m) [] e = absurd (true≢false (e 0))
elements_same from (false ∷ m) [] e = elements_same (from + 1) m [] (λ j. e (suc j))
elements_same from (true ∷ m) (true ∷ k) e = ap (λ l. from ∷ l) (elements_same (from + 1) m k (λ j. e (suc j)))
elements_same from (true ∷ m) (false ∷ k) e = absurd (true≢false (e 0))
elements_same from (false ∷ m) (true ∷ k) e = absurd (false≢true (e 0))
elements_same from (false ∷ m) (false ∷ k) e = elements_same (from + 1) m k (λ j. e (suc j))
