-- The lowest number that passes, looked for from a number on below which none does.
use Rattle.std.proofs.Common.{◌≡◌, ℕ, zero, suc, ◌+◌, ◌-◌, ◌<◌, ◌≤◌, Bool, true, false, cond, ◌⊎◌, List, [], ◌∷◌, Some, None, Option, sym, refl, ap, ◌∙◌, inl, inr, arith}
use mathlib.Core.Option.{some}
use Rattle.std.specs.List.{find, range_with_len}
use Rattle.std.proofs.lemmas.Bool.{cases_lt}
use Rattle.sets.specs.Sets.{has, any, lowest, elements, elements_from}
use Rattle.sets.proofs.Bits.{clash}
use Rattle.rules.specs.CallLists.{Call}
use Rattle.rules.specs.Run.{first_that, as_call}
use Rattle.running.specs.Finding.{numbers_from, lowest_in, NoneBelow, back_to, in_rules}

not_none : {A : Type 0} {X : Type 0} (a : A) → ◌≡◌ {A = Option A} None (Some a) → X
not_none {A} {X} a e = let z : ◌≡◌ {A = ℕ} 0 1 = cc in absurd (omega arith)

some_same : {A : Type 0} (a b : A) → ◌≡◌ {A = Option A} (Some a) (Some b) → a ≡ b
some_same a b e = cc

module _ (p : ℕ → Bool) where
  -- the first of a list, as the rules have it
  pub first_is : (l : List ℕ) → first_that p l ≡ in_rules (find p l)
  first_is [] = refl
  first_is (k ∷ l) = go (p k) (first_is l)
    where
      go : (t : Bool) → first_that p l ≡ in_rules (find p l) → (elim t [ true ↦ some k | false ↦ first_that p l ]) ≡ in_rules (cond t (Some k) (find p l))
      go true ih = refl
      go false ih = ih

  module _ (n k : ℕ) where
    found_at : (t : Bool) (m : ℕ) → p k ≡ t → m ≡ suc (n - (k + 1)) → find p (range_with_len k m) ≡ cond t (Some k) (find p (numbers_from (k + 1) n))
    found_at t m e f = ap (λ x. find p (range_with_len k x)) f ∙ ap (λ x. cond x (Some k) (find p (numbers_from (k + 1) n))) e

    -- one that passes is found
    pub found_here : k < n → p k ≡ true → find p (numbers_from k n) ≡ Some k
    found_here h e = found_at true (n - k) e (omega arith)

    -- one that does not is left behind
    pub found_after : k < n → p k ≡ false → find p (numbers_from (k + 1) n) ≡ find p (numbers_from k n)
    found_after h e = sym (found_at false (n - k) e (omega arith))

    -- past the end nothing is found
    pub found_none : n ≤ k → find p (numbers_from k n) ≡ None
    found_none h = let e : n - k ≡ 0 = omega arith in ap (λ x. find p (range_with_len k x)) e

  -- it makes no difference from where one looks
  pub from_there : (k n : ℕ) → NoneBelow p k → find p (numbers_from k n) ≡ find p (range_with_len 0 n)
  from_there zero n h = let e : n - 0 ≡ n = omega arith in ap (λ x. find p (range_with_len 0 x)) e
  from_there (suc k) n h = go (cases_lt k n) (from_there k n (λ j l. h j (omega arith)))
    where
      next : ◌≡◌ {A = ℕ} (suc k) (k + 1)
      next = omega arith

      go : (k < n) ⊎ (n ≤ k) → find p (numbers_from k n) ≡ find p (range_with_len 0 n) → find p (numbers_from (suc k) n) ≡ find p (range_with_len 0 n)
      go (inl l) ih = ap (λ x. find p (numbers_from x n)) next ∙ found_after n k l (h k (omega arith)) ∙ ih
      go (inr g) ih = found_none n (suc k) (omega arith) ∙ sym (found_none n k g) ∙ ih

  -- a call at the number that is found, as the rules have it
  pub call_found : (f : ℕ → Call) (k n : ℕ) (o : Option ℕ) → NoneBelow p k → o ≡ find p (numbers_from k n) → as_call f (first_that p (range_with_len 0 n)) ≡ as_call f (in_rules o)
  call_found f k n o h e = ap (as_call f) (first_is (range_with_len 0 n) ∙ ap in_rules (sym (from_there k n h) ∙ sym e))

  -- what is found passes
  pub found_passes : (l : List ℕ) (c : ℕ) → find p l ≡ Some c → p c ≡ true
  found_passes [] c e = not_none c e
  found_passes (k ∷ l) c e = go (p k) refl e (found_passes l c)
    where
      go : (t : Bool) → p k ≡ t → cond t (Some k) (find p l) ≡ Some c → (find p l ≡ Some c → p c ≡ true) → p c ≡ true
      go true f x ih = ap p (sym (some_same k c x)) ∙ f
      go false f x ih = ih x

  -- below the number that is found none passes
  below_found : (m k c : ℕ) → NoneBelow p k → find p (range_with_len k m) ≡ Some c → NoneBelow p c
  below_found zero k c h e = not_none c e
  below_found (suc m) k c h e = go (p k) refl e (below_found m (k + 1) c)
    where
      go : (t : Bool) → p k ≡ t → cond t (Some k) (find p (range_with_len (k + 1) m)) ≡ Some c → (NoneBelow p (k + 1) → find p (range_with_len (k + 1) m) ≡ Some c → NoneBelow p c) → NoneBelow p c
      go true f x ih = λ j l. h j (omega (arith, some_same k c x))
      go false f x ih = ih (λ j l. elim (cases_lt j k) [ inl a ↦ h j a | inr b ↦ let e : j ≡ k = omega arith in ap p e ∙ f ]) x

  pub none_below : (n k c : ℕ) → NoneBelow p k → find p (numbers_from k n) ≡ Some c → NoneBelow p c
  none_below n k c h e = below_found (n - k) k c h e

  below_end : (m k : ℕ) → NoneBelow p k → find p (range_with_len k m) ≡ None → NoneBelow p (k + m)
  below_end zero k h e = λ j l. h j (omega arith)
  below_end (suc m) k h e = go (p k) refl e (below_end m (k + 1))
    where
      go : (t : Bool) → p k ≡ t → cond t (Some k) (find p (range_with_len (k + 1) m)) ≡ None → (NoneBelow p (k + 1) → find p (range_with_len (k + 1) m) ≡ None → NoneBelow p (k + 1 + m)) → NoneBelow p (k + suc m)
      go true f x ih = not_none k (sym x)
      go false f x ih = λ j l. ih (λ i a. elim (cases_lt i k) [ inl b ↦ h i b | inr b ↦ let e : i ≡ k = omega arith in ap p e ∙ f ]) x j (omega arith)

  -- where nothing is found, none passes
  pub none_at_all : (n k : ℕ) → NoneBelow p k → find p (numbers_from k n) ≡ None → NoneBelow p n
  none_at_all n k h e = λ j l. below_end (n - k) k h e j (omega arith)

  -- of a set, none below the number that is found passes
  in_set : (k : ℕ) (m : List Bool) (d : ℕ) → find p (elements_from k m) ≡ Some d → (j : ℕ) → has m j ≡ true → k + j < d → p (k + j) ≡ false
  in_set k [] d e j i l = absurd (clash i refl)
  in_set k (false ∷ m) d e zero i l = absurd (clash i refl)
  in_set k (false ∷ m) d e (suc j) i l = let s : k + 1 + j ≡ k + suc j = omega arith in ap p (sym s) ∙ in_set (k + 1) m d e j i (omega arith)
  in_set k (true ∷ m) d e j i l = go (p k) refl e j i l (in_set (k + 1) m d)
    where
      go : (t : Bool) → p k ≡ t → cond t (Some k) (find p (elements_from (k + 1) m)) ≡ Some d → (j : ℕ) → has (true ∷ m) j ≡ true → k + j < d
          → (find p (elements_from (k + 1) m) ≡ Some d → (j : ℕ) → has m j ≡ true → k + 1 + j < d → p (k + 1 + j) ≡ false) → p (k + j) ≡ false
      go true f x j i l ih = let s : k ≡ d = some_same k d x in absurd (omega arith)
      go false f x zero i l ih = let s : k + 0 ≡ k = omega arith in ap p s ∙ f
      go false f x (suc j) i l ih = let s : k + 1 + j ≡ k + suc j = omega arith in ap p (sym s) ∙ ih x j i (omega arith)

  out_of_set : (k : ℕ) (m : List Bool) → find p (elements_from k m) ≡ None → (j : ℕ) → has m j ≡ true → p (k + j) ≡ false
  out_of_set k [] e j i = absurd (clash i refl)
  out_of_set k (false ∷ m) e zero i = absurd (clash i refl)
  out_of_set k (false ∷ m) e (suc j) i = let s : k + 1 + j ≡ k + suc j = omega arith in ap p (sym s) ∙ out_of_set (k + 1) m e j i
  out_of_set k (true ∷ m) e j i = go (p k) refl e j i (out_of_set (k + 1) m)
    where
      go : (t : Bool) → p k ≡ t → cond t (Some k) (find p (elements_from (k + 1) m)) ≡ None → (j : ℕ) → has (true ∷ m) j ≡ true
          → (find p (elements_from (k + 1) m) ≡ None → (j : ℕ) → has m j ≡ true → p (k + 1 + j) ≡ false) → p (k + j) ≡ false
      go true f x j i ih = not_none k (sym x)
      go false f x zero i ih = let s : k + 0 ≡ k = omega arith in ap p s ∙ f
      go false f x (suc j) i ih = let s : k + 1 + j ≡ k + suc j = omega arith in ap p (sym s) ∙ ih x j i

  -- where only what is in m may pass that did not before, one goes back to the lowest of these that does
  pub still_none : (before : ℕ → Bool) (k : ℕ) (m : List Bool) → NoneBelow before k → ((j : ℕ) → has m j ≡ false → p j ≡ before j) → NoneBelow p (back_to k (find p (elements m)))
  still_none before k m h other j l = go (has m j) refl (find p (elements m)) refl l
    where
      zero_more : ◌≡◌ {A = ℕ} (0 + j) j
      zero_more = omega arith

      go : (t : Bool) → has m j ≡ t → (o : Option ℕ) → find p (elements m) ≡ o → j < back_to k o → p j ≡ false
      go true i None e l = ap p (sym zero_more) ∙ out_of_set 0 m e j i
      go true i (Some d) e l = ap p (sym zero_more) ∙ in_set 0 m d e j i (omega arith)
      go false i None e l = other j i ∙ h j l
      go false i (Some d) e l = other j i ∙ h j (omega arith)

-- the lowest of a set, if it was found
pub lowest_is : (m : List Bool) (q : ℕ) → Some q ≡ lowest_in m → lowest m ≡ q
lowest_is m q = go (any m)
  where
    go : (t : Bool) → Some q ≡ cond t (Some (lowest m)) None → lowest m ≡ q
    go true e = sym (some_same q (lowest m) e)
    go false e = not_none q (sym e)

pub lowest_none : (m : List Bool) → None ≡ lowest_in m → any m ≡ false
lowest_none m = go (any m)
  where
    go : (t : Bool) → None ≡ cond t (Some (lowest m)) None → t ≡ false
    go true e = not_none (lowest m) e
    go false e = refl
