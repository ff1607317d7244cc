-- Binary digits: how many ones a word has, its lowest one, the word without it, and the word with one more.
use Rattle.std.proofs.Common.{◌≡◌, ℕ, zero, suc, ◌+◌, ◌-◌, ◌*◌, ◌/◌, ◌%◌, ◌^◌, ◌<◌, ◌≤◌, min, max, Bool, true, false, ◌||◌, eqb, ◌⊎◌, List, [], ◌∷◌, length, sym, refl, ap, ◌∙◌, subst, inl, inr, pow-suc, add-one, arith, shr_lt, eq-eqb, ne_eqb, eqb-true}
use Rattle.std.proofs.lemmas.Bool.{cases_Bool}
use lib.Bits.{bit_and, bit_or, and_step, or_step, and_self, or_zero_r}
use lib.Count.{ones_step, count_trailing_zeros, under}
use lib.Count.{ones as onesOf, ones_in}
use borrow.Author.Tests.{eqb-false}
use Rattle.sets.specs.Sets.{has, size, elements_from, elements}
use Rattle.sets.proofs.Bits.{same}
use Rattle.sets.proofs.Numbers.{length_elements}
use Rattle.sets.proofs.Sizes.{size_length}
use Rattle.product.specs.Words.{digits, ones}

half : (f w : ℕ) → w < 2 ^ suc f → w / 2 < 2 ^ f
half f w h = shr_lt f 1 (subst (λ (x : ℕ). w < 2 ^ x) (sym (add-one f)) h)

ones_of_zero : (w : ℕ) → w < 1 → onesOf w ≡ 0
unfolding onesOf ones_in
ones_of_zero zero h = refl
ones_of_zero (suc w) h = absurd (omega arith)

size_step : (f w : ℕ) → size (digits f (w / 2)) ≡ onesOf (w / 2) → size (digits (suc f) w) ≡ onesOf w
unfolding digits
size_step f w rest = go (eqb (w % 2) 1) refl
  where
    go : (t : Bool) → eqb (w % 2) 1 ≡ t → size (eqb (w % 2) 1 ∷ digits f (w / 2)) ≡ onesOf w
    go true e = ap (λ b. size (b ∷ digits f (w / 2))) e ∙ ap suc rest ∙ omega (arith, eqb-true (w % 2) 1 e, ones_step w)
    go false e = ap (λ b. size (b ∷ digits f (w / 2))) e ∙ rest ∙ omega (arith, eqb-false (w % 2) 1 e, ones_step w)

pub size_digits : (f w : ℕ) → w < 2 ^ f → size (digits f w) ≡ onesOf w
unfolding digits
size_digits zero w h = sym (ones_of_zero w h)
size_digits (suc f) w h = size_step f w (size_digits f (w / 2) (half f w h))

pub count_ones : (w : ℕ) → w < 2 ^ 32 → length (elements (ones w)) ≡ onesOf w
unfolding ones
count_ones w h = length_elements 0 (digits 32 w) ∙ size_digits 32 w h

-- a word and the word without its lowest one
digits_odd : (f w : ℕ) → w % 2 ≡ 1 → digits (suc f) w ≡ true ∷ digits f (w / 2)
unfolding digits
digits_odd f w e = ap (λ b. b ∷ digits f (w / 2)) (eq-eqb (w % 2) 1 e)

digits_even : (f w : ℕ) → (w % 2 ≡ 1 → ⊥) → digits (suc f) w ≡ false ∷ digits f (w / 2)
unfolding digits
digits_even f w e = ap (λ b. b ∷ digits f (w / 2)) (ne_eqb (w % 2) 1 e)

clear_odd : (w : ℕ) → w % 2 ≡ 1 → bit_and w (w - 1) ≡ w / 2 * 2
clear_odd w e =
    let d : (w - 1) / 2 ≡ w / 2 = omega arith in
    let m : (w - 1) % 2 ≡ 0 = omega arith in
    and_step w (w - 1) ∙ (λ i. bit_and (w / 2) (d i) * 2 + min (w % 2) (m i)) ∙ (λ i. and_self (w / 2) i * 2 + min (e i) 0) ∙ omega arith

clear_even : (w : ℕ) → w % 2 ≡ 0 → 0 < w → bit_and w (w - 1) ≡ bit_and (w / 2) (w / 2 - 1) * 2
clear_even w e h =
    let d : (w - 1) / 2 ≡ w / 2 - 1 = omega arith in
    and_step w (w - 1) ∙ (λ i. bit_and (w / 2) (d i) * 2 + min (e i) ((w - 1) % 2)) ∙ omega arith

pub record Lowest (f from w : ℕ) : Type 0 where
  pub rest : List ℕ
  pub is : elements_from from (digits f w) ≡ (from + count_trailing_zeros f w) ∷ rest
  pub cleared : elements_from from (digits f (bit_and w (w - 1))) ≡ rest

trailing_odd : (f w : ℕ) → w % 2 ≡ 1 → count_trailing_zeros (suc f) w ≡ 0
unfolding count_trailing_zeros
trailing_odd f w e = ap (λ d. under d (count_trailing_zeros f (w / 2))) e

trailing_even : (f w : ℕ) → w % 2 ≡ 0 → count_trailing_zeros (suc f) w ≡ suc (count_trailing_zeros f (w / 2))
unfolding count_trailing_zeros
trailing_even f w e = ap (λ d. under d (count_trailing_zeros f (w / 2))) e

pub lowest_one : (f from w : ℕ) → 0 < w → w < 2 ^ f → Lowest f from w
lowest_one zero from w some low = absurd (omega arith)
lowest_one (suc f) from w some low = go (cases_Bool (eqb (w % 2) 1)) (λ h. lowest_one f (from + 1) (w / 2) h (half f w low))
  where
    go : (eqb (w % 2) 1 ≡ true) ⊎ (eqb (w % 2) 1 ≡ false) → (0 < w / 2 → Lowest f (from + 1) (w / 2)) → Lowest (suc f) from w
    go (inl e) ih =
        let o = eqb-true (w % 2) 1 e in
        let z : from ≡ from + count_trailing_zeros (suc f) w = omega (arith, trailing_odd f w o) in
        let c = clear_odd w o in
        let c₂ : bit_and w (w - 1) / 2 ≡ w / 2 = ap (λ x. x / 2) c ∙ omega arith in
        let c₁ : bit_and w (w - 1) % 2 ≡ 1 → ⊥ = λ q. absurd (omega (arith, c, q)) in
        record {
          rest = elements_from (from + 1) (digits f (w / 2));
          is = ap (elements_from from) (digits_odd f w o) ∙ ap (λ x. x ∷ elements_from (from + 1) (digits f (w / 2))) z;
          cleared = ap (elements_from from) (digits_even f (bit_and w (w - 1)) c₁) ∙ ap (λ x. elements_from (from + 1) (digits f x)) c₂;
        }
    go (inr e) ih =
        let n = eqb-false (w % 2) 1 e in
        let v : w % 2 ≡ 0 = omega (arith, n) in
        let r = ih (omega arith) in
        let c = clear_even w v some in
        let c₂ : bit_and w (w - 1) / 2 ≡ bit_and (w / 2) (w / 2 - 1) = ap (λ x. x / 2) c ∙ omega arith in
        let c₁ : bit_and w (w - 1) % 2 ≡ 1 → ⊥ = λ q. absurd (omega (arith, c, q)) in
        let z : from + 1 + count_trailing_zeros f (w / 2) ≡ from + count_trailing_zeros (suc f) w = omega (arith, trailing_even f w v) in
        record {
          rest = r.rest;
          is = ap (elements_from from) (digits_even f w n) ∙ r.is ∙ ap (λ x. x ∷ r.rest) z;
          cleared = ap (elements_from from) (digits_even f (bit_and w (w - 1)) c₁) ∙ ap (λ x. elements_from (from + 1) (digits f x)) c₂ ∙ r.cleared;
        }

-- the ones of a word are its lowest one and those of the word without it
pub first_one : (w : ℕ) → 0 < w → w < 2 ^ 32 → elements (ones w) ≡ count_trailing_zeros 32 w ∷ elements (ones (bit_and w (w - 1)))
unfolding ones
first_one w some low =
    let r = lowest_one 32 0 w some low in
    let z : 0 + count_trailing_zeros 32 w ≡ count_trailing_zeros 32 w = omega arith in
    r.is ∙ ap (λ x. x ∷ r.rest) z ∙ ap (λ l. count_trailing_zeros 32 w ∷ l) (sym r.cleared)

pub zero_ones : (w : ℕ) → w ≡ 0 → elements (ones w) ≡ []
unfolding ones digits
zero_ones w e = ap (λ (x : ℕ). elements (ones x)) e

-- one more one
or_two_power : (w j : ℕ) → (bit_or w (2 ^ suc j) / 2 ≡ bit_or (w / 2) (2 ^ j)) × (bit_or w (2 ^ suc j) % 2 ≡ w % 2)
or_two_power w j =
    let s = pow-suc 2 j in
    let d : 2 ^ suc j / 2 ≡ 2 ^ j = omega arith in
    let m : 2 ^ suc j % 2 ≡ 0 = omega arith in
    let e = or_step w (2 ^ suc j) ∙ (λ i. bit_or (w / 2) (d i) * 2 + max (w % 2) (m i)) in
    (omega (arith, e), omega (arith, e))

or_one : (w : ℕ) → (bit_or w 1 / 2 ≡ w / 2) × (bit_or w 1 % 2 ≡ 1)
or_one w = let e = or_step w 1 ∙ ap (λ x. x * 2 + max (w % 2) 1) (or_zero_r (w / 2)) in (omega (arith, e), omega (arith, e))

eqb_suc : (i j : ℕ) → eqb i j ≡ eqb (suc i) (suc j)
eqb_suc i j = same (eqb i j) (eqb (suc i) (suc j)) (λ e. eq-eqb (suc i) (suc j) (ap suc (eqb-true i j e))) (λ e. eq-eqb i j (omega (arith, eqb-true (suc i) (suc j) e)))

pub digits_or : (f w j i : ℕ) → j < f → has (digits f (bit_or w (2 ^ j))) i ≡ (eqb i j || has (digits f w) i)
unfolding digits
digits_or zero w j i h = absurd (omega arith)
digits_or (suc f) w zero zero h = eq-eqb (bit_or w 1 % 2) 1 (or_one w).1
digits_or (suc f) w zero (suc i) h = ap (λ x. has (digits f x) i) (or_one w).0 ∙ ap (λ t. t || has (digits f (w / 2)) i) (sym (ne_eqb (suc i) 0 (λ e. absurd (omega arith))))
digits_or (suc f) w (suc j) zero h = ap (λ x. eqb x 1) (or_two_power w j).1 ∙ ap (λ t. t || eqb (w % 2) 1) (sym (ne_eqb 0 (suc j) (λ e. absurd (omega arith))))
digits_or (suc f) w (suc j) (suc i) h = ap (λ x. has (digits f x) i) (or_two_power w j).0 ∙ digits_or f (w / 2) j i (omega arith) ∙ ap (λ t. t || has (digits f (w / 2)) i) (eqb_suc i j)

pub ones_or : (w j i : ℕ) → j < 32 → has (ones (bit_or w (2 ^ j))) i ≡ (eqb i j || has (ones w) i)
unfolding ones
ones_or w j i h = digits_or 32 w j i h

no_digits : (f i : ℕ) → has (digits f 0) i ≡ false
unfolding digits
no_digits zero i = refl
no_digits (suc f) zero = refl
no_digits (suc f) (suc i) = no_digits f i

pub ones_none : (i : ℕ) → has (ones 0) i ≡ false
unfolding ones
ones_none i = no_digits 32 i

length_digits : (f w : ℕ) → length (digits f w) ≡ f
unfolding digits
length_digits zero w = refl
length_digits (suc f) w = ap suc (length_digits f (w / 2))

pub few_ones : (w : ℕ) → length (elements (ones w)) ≤ 32
unfolding ones
few_ones w = omega (arith, length_elements 0 (digits 32 w), size_length (digits 32 w), length_digits 32 w)
