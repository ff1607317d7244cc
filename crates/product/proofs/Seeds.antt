-- Seeds as they are given: one more place of the list, and what the matrix has.
use Rattle.std.proofs.Common.{◌≡◌, ℕ, zero, suc, ◌+◌, ◌<◌, ◌≤◌, Bool, true, false, ◌&&◌, ◌||◌, eqb, ltb, leb, ◌⊎◌, List, [], ◌∷◌, ◌++◌, length, get_or, take, set, replicate, None, sym, refl, ap, ◌∙◌, inl, inr, arith, get_or-set_other, get_or-set_same, ltb-false, eqb-true, leb-false}
use mathlib.Core.Bool.{false≢true}
use borrow.Author.Tests.{eqb-false, lt-leb}
use Rattle.std.proofs.lemmas.List.{take_more}
use Rattle.std.proofs.lemmas.Bool.{cases_Bool, and_parts, or_cases, or_parts, or_from}
use Rattle.sets.specs.Sets.{has}
use Rattle.product.specs.declared.place.Place.{Place}
use Rattle.product.specs.declared.seed.Seed.{Seed}
use Rattle.terms.specs.declared.refusal.Refusal.TheVariants.{OutsideLimits}
use Rattle.terms.proofs.Answering.{test_fails}
use Rattle.product.specs.Seed.{size_outside, outside, some_outside, fault_of, marked}
use Rattle.product.specs.Words.{ones, one_at}
use Rattle.product.proofs.Digits.{ones_none}

abbrev pub origin : Place
origin = record { row = 0; column = 0 }

-- one more place is marked
marked_push : (a b : ℕ) (l : List Place) (p : Place) → marked a b (l ++ p ∷ []) ≡ ((eqb a p.row && eqb b p.column) || marked a b l)
marked_push a b [] p = refl
marked_push a b (q ∷ l) p = ap (λ t. (eqb a q.row && eqb b q.column) || t) (marked_push a b l p) ∙ swap (eqb a q.row && eqb b q.column) (eqb a p.row && eqb b p.column) (marked a b l)
  where
    swap : (x y z : Bool) → (x || (y || z)) ≡ (y || (x || z))
    swap true true z = refl
    swap true false z = refl
    swap false true z = refl
    swap false false z = refl

pub marked_more : (a b : ℕ) (l : List Place) (i : ℕ) → i < length l → marked a b (take (i + 1) l) ≡ ((eqb a (get_or l i origin).row && eqb b (get_or l i origin).column) || marked a b (take i l))
marked_more a b l i h = ap (marked a b) (take_more l i origin h) ∙ marked_push a b (take i l) (get_or l i origin)

-- the word numbered k gets a one at place j: what the table has then
pub one_more_lem : (words : List ℕ) (k j w : ℕ) → k < length words → ((i : ℕ) → has (ones w) i ≡ (eqb i j || has (ones (get_or words k 0)) i)) → (a b : ℕ) → one_at (set words k w) a b ≡ ((eqb a k && eqb b j) || one_at words a b)
one_more_lem words k j w h e a b = go (cases_Bool (eqb a k))
  where
    go : (eqb a k ≡ true) ⊎ (eqb a k ≡ false) → one_at (set words k w) a b ≡ ((eqb a k && eqb b j) || one_at words a b)
    go (inl t) =
        let z : a ≡ k = eqb-true a k t in
        ap (λ x. one_at (set words k w) x b) z ∙ ap (λ x. has (ones x) b) (get_or-set_same words k w 0 h) ∙ e b ∙ ap (λ x. eqb b j || one_at words x b) (sym z) ∙ ap (λ x. (x && eqb b j) || one_at words a b) (sym t)
    go (inr f) =
        ap (λ x. has (ones x) b) (get_or-set_other words k a w 0 (eqb-false a k f)) ∙ ap (λ x. (x && eqb b j) || one_at words a b) (sym f)

no_word : (n a : ℕ) → ◌≡◌ {A = ℕ} (get_or (replicate n 0) a 0) 0
no_word zero a = refl
no_word (suc n) zero = refl
no_word (suc n) (suc a) = no_word n a

-- empty words have no ones
pub no_ones : (n a b : ℕ) → one_at (replicate n 0) a b ≡ false
no_ones n a b = ap (λ w. has (ones w) b) (no_word n a) ∙ ones_none b

-- what lies inside a matrix lies inside a larger one
pub outside_wider : (r n r' n' : ℕ) → r ≤ r' → n ≤ n' → (l : List Place) → some_outside r n l ≡ false → some_outside r' n' l ≡ false
outside_wider r n r' n' hr hn [] e = refl
outside_wider r n r' n' hr hn (p ∷ l) e =
    let o = or_parts (outside r n p) (some_outside r n l) e in
    let q = or_parts (leb r p.row) (leb n p.column) o.0 in
    or_from (outside r' n' p) (some_outside r' n' l)
    (or_from (leb r' p.row) (leb n' p.column) (lt-leb r' p.row (omega (arith, leb-false r p.row q.0))) (lt-leb n' p.column (omega (arith, leb-false n p.column q.1))))
    (outside_wider r n r' n' hr hn l o.1)

-- a marked entry lies where every place does
pub marked_inside : (r n : ℕ) (l : List Place) → some_outside r n l ≡ false → (a b : ℕ) → marked a b l ≡ true → (a < r) × (b < n)
marked_inside r n [] e a b m = absurd (false≢true m)
marked_inside r n (p ∷ l) e a b m = go (or_cases (eqb a p.row && eqb b p.column) (marked a b l) m) (marked_inside r n l o.1 a b)
  where
    o : (outside r n p ≡ false) × (some_outside r n l ≡ false)
    o = or_parts (outside r n p) (some_outside r n l) e

    go : ((eqb a p.row && eqb b p.column) ≡ true) ⊎ (marked a b l ≡ true) → (marked a b l ≡ true → (a < r) × (b < n)) → (a < r) × (b < n)
    go (inl t) ih =
        let q = or_parts (leb r p.row) (leb n p.column) o.0 in
        let z = and_parts (eqb a p.row) (eqb b p.column) t in
        (omega (arith, leb-false r p.row q.0, eqb-true a p.row z.0), omega (arith, leb-false n p.column q.1, eqb-true b p.column z.1))
    go (inr t) ih = ih t

pub size_inside : (k : ℕ) → size_outside k ≡ false → (1 ≤ k) × (k ≤ 32)
size_inside k e = let o = or_parts (ltb k 1) (ltb 32 k) e in (ltb-false k 1 o.0, ltb-false 32 k o.1)

-- a seed that is not refused
pub record Taken (s : Seed) : Type 0 where
  pub rows : (1 ≤ s.rows) × (s.rows ≤ 32)
  pub columns : (1 ≤ s.columns) × (s.columns ≤ 32)
  pub inside : some_outside s.rows s.columns s.ones.now ≡ false

pub taken : (s : Seed) → fault_of s ≡ None → Taken s
taken s e =
    let r = size_outside s.rows in
    let n = size_outside s.columns in
    let o = some_outside s.rows s.columns s.ones.now in
    let sizes = or_parts r (n || o) (test_fails (r || (n || o)) OutsideLimits _ e).0 in
    let rest = or_parts n o sizes.1 in
    record { rows = size_inside s.rows sizes.0; columns = size_inside s.columns rest.0; inside = rest.1 }
