-- A list of distinct numbers that is sorted is the elements of its set in rising order.
use Rattle.std.proofs.Common.{◌≡◌, ℕ, suc, ◌+◌, ◌-◌, ◌<◌, ◌≤◌, ◌≢◌, Bool, true, false, ◌||◌, eqb, List, [], ◌∷◌, length, get_or, sym, refl, ap, ◌∙◌, subst, inl, inr, arith, eqb-true, eq-eqb}
use borrow.Author.Tests.{eqb-false, ne_eqb}
use mathlib.Core.Bool.{false≢true}
use Rattle.std.specs.List.{list_any, IsDistinct, AllByRecursion}
use Rattle.std.specs.List.Sorted.{IsPermutation, IsNonDecreasingBy}
use Rattle.std.proofs.lemmas.List.Sorted.{list_any-IsPermutation}
use Rattle.std.proofs.lemmas.Map.Keys.{IsDistinct-IsPermutation}
use Rattle.sets.specs.Lists.{In, Distinct}
use Rattle.sets.specs.Sets.{has, elements_from, elements, among}
use Rattle.sets.proofs.Bits.{clash}
use Rattle.sets.proofs.Numbers.{in_among, among_in}

-- a permuted list has the same numbers
any_among : (k : ℕ) (l : List ℕ) → among k l ≡ list_any (eqb k) l
any_among k [] = refl
any_among k (x ∷ l) = ap (λ b. eqb k x || b) (any_among k l)

pub in_moved : (k : ℕ) (xs ys : List ℕ) → IsPermutation xs ys → among k ys ≡ among k xs
in_moved k xs ys p = any_among k ys ∙ sym (list_any-IsPermutation (eqb k) xs ys p) ∙ sym (any_among k xs)

eqb_flips : (x y : ℕ) → eqb x y ≡ eqb y x
eqb_flips x y = go (eqb x y) refl
  where
    go : (b : Bool) → eqb x y ≡ b → b ≡ eqb y x
    go true e = sym (eq-eqb y x (sym (eqb-true x y e)))
    go false e = sym (ne_eqb y x (λ h. eqb-false x y e (sym h)))

none_to : (x : ℕ) (l : List ℕ) → (In x l → ⊥) → AllByRecursion (λ y. eqb x y ≡ false) l
none_to x [] n = tt
none_to x (y ∷ l) n = (ne_eqb x y (λ e. n (inl e)), none_to x l (λ i. n (inr i)))

none_from : (x : ℕ) (l : List ℕ) → AllByRecursion (λ y. eqb x y ≡ false) l → In x l → ⊥
none_from x [] a i = i
none_from x (y ∷ l) a (inl e) = clash (eq-eqb x y e) a.0
none_from x (y ∷ l) a (inr i) = none_from x l a.1 i

once_to : (l : List ℕ) → Distinct l → IsDistinct eqb l
unfolding IsDistinct
once_to [] d = tt
once_to (x ∷ l) d = (none_to x l d.0, once_to l d.1)

once_from : (l : List ℕ) → IsDistinct eqb l → Distinct l
unfolding IsDistinct
once_from [] d = tt
once_from (x ∷ l) d = (none_from x l d.0, once_from l d.1)

pub once_moved : (xs ys : List ℕ) → IsPermutation xs ys → Distinct xs → Distinct ys
once_moved xs ys p d = once_from ys (IsDistinct-IsPermutation eqb eqb_flips xs ys p (once_to xs d))

-- a list that rises from a number on
abbrev Rises : ℕ → List ℕ → Type 0
Rises low [] = Unit {0}
Rises low (x ∷ l) = (low ≤ x) × Rises (x + 1) l

rises_low : (low : ℕ) (l : List ℕ) → Rises low l → (k : ℕ) → In k l → low ≤ k
rises_low low [] r k i = absurd i
rises_low low (x ∷ l) r k (inl e) = omega (arith, r.0)
rises_low low (x ∷ l) r k (inr i) = omega (arith, r.0, rises_low (x + 1) l r.1 k i)

rises_up : (low low' : ℕ) (l : List ℕ) → Rises low l → ((k : ℕ) → In k l → low' ≤ k) → Rises low' l
rises_up low low' [] r h = tt
rises_up low low' (x ∷ l) r h = (h x (inl refl), r.1)

elements_are : (low : ℕ) (m : List Bool) (l : List ℕ) → Rises low l → ((k : ℕ) → In (low + k) l → has m k ≡ true) → ((k : ℕ) → has m k ≡ true → In (low + k) l) → l ≡ elements_from low m
elements_are low [] [] r to from = refl
elements_are low [] (x ∷ l) r to from =
    let e : low + (x - low) ≡ x = omega (arith, r.0) in
    absurd (false≢true (to (x - low) (inl e)))
elements_are low (true ∷ m) [] r to from = absurd (from 0 refl)
elements_are low (true ∷ m) (x ∷ l) r to from =
    let here : x ≡ low = elim (from 0 refl) [ inl e ↦ omega (arith, e) | inr i ↦ absurd (omega (arith, rises_low (x + 1) l r.1 (low + 0) i, r.0)) ] in
    let later : Rises (low + 1) l = rises_up (x + 1) (low + 1) l r.1 (λ k i. omega (arith, rises_low (x + 1) l r.1 k i, here)) in
    ap (λ y. y ∷ l) here
    ∙ ap (λ t. low ∷ t) (elements_are (low + 1) m l later
    (λ k i. to (suc k) (let e : low + suc k ≡ low + 1 + k = omega arith in inr (subst (λ (y : ℕ). In y l) (sym e) i)))
    (λ k h. let e : low + suc k ≡ low + 1 + k = omega arith in elim (from (suc k) h) [ inl p ↦ absurd (omega (arith, p, here)) | inr i ↦ subst (λ (y : ℕ). In y l) e i ]))
elements_are low (false ∷ m) l r to from =
    let none : In low l → ⊥ = λ i. false≢true (to 0 (let e : low + 0 ≡ low = omega arith in subst (λ (y : ℕ). In y l) (sym e) i)) in
    elements_are (low + 1) m l
    (rises_up low (low + 1) l r (λ k i. let h : low ≤ k = rises_low low l r k i in let ne : k ≢ low = (λ e. none (subst (λ (y : ℕ). In y l) e i)) in omega arith))
    (λ k i. to (suc k) (let e : low + suc k ≡ low + 1 + k = omega arith in subst (λ (y : ℕ). In y l) (sym e) i))
    (λ k h. let e : low + suc k ≡ low + 1 + k = omega arith in subst (λ (y : ℕ). In y l) e (from (suc k) h))

rises_sorted : (low : ℕ) (l : List ℕ) → ((i j : ℕ) → i ≤ j → j < length l → get_or l i 0 ≤ get_or l j 0) → Distinct l → ((k : ℕ) → In k l → low ≤ k) → Rises low l
rises_sorted low [] s d h = tt
rises_sorted low (x ∷ l) s d h =
    (h x (inl refl), rises_sorted (x + 1) l (λ i j a b. s (suc i) (suc j) (omega arith) (omega arith)) d.1 (λ k i. above k i))
  where
    at : (k : ℕ) (l : List ℕ) → In k l → (i : ℕ) × (i < length l) × (get_or l i 0 ≡ k)
    at k [] m = absurd m
    at k (j ∷ l) (inl e) = (0, omega arith, sym e)
    at k (j ∷ l) (inr m) = let r = at k l m in (suc r.0, (let h = r.1 in omega arith), r.2)

    above : (k : ℕ) → In k l → x + 1 ≤ k
    above k i =
        let p = at k l i in
        let le : x ≤ get_or l p.0 0 = s 0 (suc p.0) (omega arith) (omega (arith, p.1)) in
        let ne : k ≢ x = (λ e. d.0 (subst (λ (y : ℕ). In y l) e i)) in
        omega (arith, le, p.2)

pub sorted_elements : (m : List Bool) (xs ys : List ℕ) → IsPermutation xs ys → IsNonDecreasingBy (λ x. x) ys → Distinct xs → ((k : ℕ) → In k xs → has m k ≡ true) → ((k : ℕ) → has m k ≡ true → In k xs) → ys ≡ elements m
sorted_elements m xs ys p s d to from =
    elements_are 0 m ys (rises_sorted 0 ys (λ i j a b. s i j 0 a b) (once_moved xs ys p d) (λ k i. omega arith))
    (λ k i. let e : 0 + k ≡ k = omega arith in to k (among_in k xs (sym (in_moved k xs ys p) ∙ ap (λ y. among y ys) (sym e) ∙ in_among (0 + k) ys i)))
    (λ k h. let e : 0 + k ≡ k = omega arith in subst (λ (y : ℕ). In y ys) (sym e) (among_in k ys (in_moved k xs ys p ∙ in_among k xs (from k h))))
