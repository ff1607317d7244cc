-- What stands at a place after changes at listed places.
use Rattle.std.proofs.Common.{◌≡◌, ℕ, ◌<◌, Bool, true, false, cond, ◌||◌, eqb, ◌≢◌, List, [], ◌∷◌, length, get_or, set, sym, refl, ap, ◌∙◌, arith, length-set, eqb-true}
use borrow.Author.Tests.{eqb-false}
use Rattle.std.proofs.lemmas.List.{get_or-set_same, get_or-set_other}
use Rattle.std.proofs.lemmas.Bool.{false_from_ne_true, or_right}
use Rattle.sets.specs.Lists.{Distinct}
use Rattle.sets.specs.Sets.{has, among}
use Rattle.sets.proofs.Numbers.{among_in}
use Rattle.upkeep.specs.Changed.{changed, marked}

module _ {X : Type 0} (d : X) (f : X → X) where
  pub length_changed : (l : List ℕ) (xs : List X) → length (changed d f l xs) ≡ length xs
  length_changed [] xs = refl
  length_changed (k ∷ l) xs = length_changed l (set xs k (f (get_or xs k d))) ∙ length-set xs k (f (get_or xs k d))

  -- a place that is listed once is changed once
  pub changed_at : (l : List ℕ) (xs : List X) → Distinct l → (k : ℕ) → k < length xs → get_or (changed d f l xs) k d ≡ cond (among k l) (f (get_or xs k d)) (get_or xs k d)
  changed_at [] xs once k h = refl
  changed_at (j ∷ l) xs once k h = go (eqb k j) refl (changed_at l (set xs j (f (get_or xs j d))) once.1 k (omega (arith, length-set xs j (f (get_or xs j d)))))
    where
      go : (t : Bool) → eqb k j ≡ t → get_or (changed d f l (set xs j (f (get_or xs j d)))) k d ≡ cond (among k l) (f (get_or (set xs j (f (get_or xs j d))) k d)) (get_or (set xs j (f (get_or xs j d))) k d)
          → get_or (changed d f l (set xs j (f (get_or xs j d)))) k d ≡ cond (t || among k l) (f (get_or xs k d)) (get_or xs k d)
      go true e ih =
          let same : k ≡ j = eqb-true k j e in
          let none : among k l ≡ false = false_from_ne_true (among k l) (λ m. once.0 (among_in j l (ap (λ i. among i l) (sym same) ∙ m))) in
          let low : j < length xs = omega arith in
          ih ∙ ap (λ t. cond t (f (get_or (set xs j (f (get_or xs j d))) k d)) (get_or (set xs j (f (get_or xs j d))) k d)) none ∙ ap (λ i. get_or (set xs j (f (get_or xs j d))) i d) same ∙ get_or-set_same xs j (f (get_or xs j d)) d low ∙ ap (λ i. f (get_or xs i d)) (sym same)
      go false e ih =
          let other : k ≢ j = eqb-false k j e in
          ih ∙ ap (λ v. cond (among k l) (f v) v) (get_or-set_other xs j k (f (get_or xs j d)) d other)

-- set marks need no care for repeats
pub marked_at : (l : List ℕ) (m : List Bool) (k : ℕ) → k < length m → has (marked l m) k ≡ (among k l || has m k)
marked_at [] m k h = refl
marked_at (j ∷ l) m k h = go (eqb k j) refl (marked_at l (set m j true) k (omega (arith, length-set m j true)))
  where
    go : (t : Bool) → eqb k j ≡ t → has (marked l (set m j true)) k ≡ (among k l || has (set m j true) k) → has (marked l (set m j true)) k ≡ ((t || among k l) || has m k)
    go true e ih =
        let same : k ≡ j = eqb-true k j e in
        let low : j < length m = omega arith in
        ih ∙ or_right (among k l) (has (set m j true) k) (ap (has (set m j true)) same ∙ get_or-set_same m j true false low)
    go false e ih = ih ∙ ap (λ v. among k l || v) (get_or-set_other m j k true false (eqb-false k j e))
