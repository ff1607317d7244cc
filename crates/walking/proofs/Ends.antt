-- Lists that grow at their ends, and how long lists of distinct numbers are.
use Rattle.std.proofs.Common.{◌≡◌, ℕ, zero, suc, ◌<◌, ◌≤◌, Bool, true, ◌⊎◌, List, [], ◌∷◌, ◌++◌, length, sym, refl, ap, subst, inl, inr, arith}
use Rattle.sets.specs.Lists.{In, Distinct}
use Rattle.sets.specs.Sets.{has, row, marks}
use Rattle.sets.proofs.Bits.{clash}
use Rattle.sets.proofs.Lists.{in_left, in_right, in_cases, distinct_append}
use Rattle.sets.proofs.Marks.{length_marks, has_marks}
use Rattle.sets.proofs.Numbers.{distinct_repeats, told_once}
use Rattle.sets.proofs.Sets.{has_below, row_in}
use Rattle.sets.proofs.Sizes.{size_length}
use Rattle.meaning.specs.Meaning.{Meaning, Sound, qubits}

-- distinct numbers below n are no more than n
pub few : (n : ℕ) (l : List ℕ) → Distinct l → ((k : ℕ) → In k l → k < n) → length l ≤ n
few n l d h = omega (arith, told_once l (marks n l) (distinct_repeats l d) (λ k. sym (has_marks n l h k)), size_length (marks n l), length_marks n l)

-- what is held lies within the code
pub check_low : (sets : List (List Bool)) (d i : ℕ) → has (row sets d) i ≡ true → d < length sets
check_low [] d i h = absurd (clash h refl)
check_low (x ∷ sets) zero i h = omega arith
check_low (x ∷ sets) (suc d) i h = omega (arith, check_low sets d i h)

pub held_low : (M : Meaning) → Sound M → (d k : ℕ) → has (row M.checks d) k ≡ true → k < qubits M
held_low M sound d k h =
    let b : k < length (row M.checks d) = has_below (row M.checks d) k h in
    elim (row_in M.checks d) [ inl g ↦ omega (arith, b, sound.checks_range (row M.checks d) g) | inr g ↦ absurd (omega (arith, b, ap length g)) ]

-- one more at the end of a list
pub one_more : (k j : ℕ) (l l' : List ℕ) → l' ≡ l ++ j ∷ [] → In k l' → In k l ⊎ (k ≡ j)
one_more k j l l' e i = elim (in_cases k l (j ∷ []) (subst (λ (x : List ℕ). In k x) e i)) [ inl a ↦ inl a | inr b ↦ elim b [ inl p ↦ inr p | inr n ↦ absurd n ] ]

pub old_in : (k j : ℕ) (l l' : List ℕ) → l' ≡ l ++ j ∷ [] → In k l → In k l'
old_in k j l l' e i = subst (λ (x : List ℕ). In k x) (sym e) (in_left k l (j ∷ []) i)

pub new_in : (k j : ℕ) (l l' : List ℕ) → l' ≡ l ++ j ∷ [] → k ≡ j → In k l'
new_in k j l l' e p = subst (λ (x : List ℕ). In k x) (sym e) (in_right k l (j ∷ []) (inl p))

pub more_once : (j : ℕ) (l l' : List ℕ) → l' ≡ l ++ j ∷ [] → Distinct l → (In j l → ⊥) → Distinct l'
more_once j l l' e d none =
    subst (λ (x : List ℕ). Distinct x) (sym e)
    (distinct_append l (j ∷ []) d (λ n. n, tt) (λ x a b. elim b [ inl p ↦ none (subst (λ (y : ℕ). In y l) p a) | inr n ↦ n ]))

pub front_once : (j : ℕ) (l : List ℕ) → Distinct (l ++ j ∷ []) → Distinct l × (In j l → ⊥)
front_once j [] d = (tt, λ n. n)
front_once j (x ∷ l) d =
    let r = front_once j l d.1 in
    ((λ i. d.0 (in_left x l (j ∷ []) i), r.0), λ i. elim i [ inl p ↦ d.0 (in_right x l (j ∷ []) (inl (sym p))) | inr h ↦ r.1 h ])
