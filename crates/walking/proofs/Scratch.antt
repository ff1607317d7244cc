-- Marks in scratch bytes.
use Rattle.std.proofs.Common.{◌≡◌, ℕ, zero, suc, ◌<◌, ◌≤◌, ◌≢◌, Bool, true, false, cond, not, ◌&&◌, eqb, ltb, ◌⊎◌, List, [], ◌∷◌, length, get_or, drop, set, sym, refl, ap, ◌∙◌, inl, inr, arith, length-set, get_or-set_same, get_or-set_other, ltb-true, lt-ltb, eqb-true}
use borrow.Author.Tests.{eqb-false}
use Rattle.std.proofs.lemmas.Bool.{and_parts, and_from}
use Rattle.marks.specs.Marks.{is_marked, with_mark}

drop_set : (n : ℕ) (m : List ℕ) (j : ℕ) → j < n → drop n (set m j 1) ≡ drop n m
drop_set zero m j h = absurd (omega arith)
drop_set (suc n) [] j h = refl
drop_set (suc n) (x ∷ m) zero h = refl
drop_set (suc n) (x ∷ m) (suc j) h = drop_set n m j (omega arith)

pub marked_low : (n : ℕ) (m : List ℕ) (k : ℕ) → is_marked n m k ≡ true → k < n
marked_low n m k e = ltb-true k n (and_parts (ltb k n) (not (eqb (get_or m k 0) 0)) e).0

module _ (n : ℕ) (m : List ℕ) (room : n ≤ length m) (j : ℕ) (low : j < n) where
  marks_it : with_mark n m j ≡ set m j 1
  marks_it = ap (λ b. cond b (set m j 1) m) (lt-ltb j n low)

  pub mark_long : length (with_mark n m j) ≡ length m
  mark_long = ap length marks_it ∙ length-set m j 1

  pub mark_beyond : drop n (with_mark n m j) ≡ drop n m
  mark_beyond = ap (drop n) marks_it ∙ drop_set n m j low

  set_new : is_marked n (set m j 1) j ≡ true
  set_new = let h : j < length m = omega arith in and_from (ltb j n) (not (eqb (get_or (set m j 1) j 0) 0)) (lt-ltb j n low) (ap (λ v. not (eqb v 0)) (get_or-set_same m j 1 0 h))

  set_other : (k : ℕ) → k ≢ j → is_marked n (set m j 1) k ≡ is_marked n m k
  set_other k ne = ap (λ v. ltb k n && not (eqb v 0)) (get_or-set_other m j k 1 0 ne)

  pub mark_new : is_marked n (with_mark n m j) j ≡ true
  mark_new = ap (λ l. is_marked n l j) marks_it ∙ set_new

  pub mark_old : (k : ℕ) → is_marked n m k ≡ true → is_marked n (with_mark n m j) k ≡ true
  mark_old k e = ap (λ l. is_marked n l k) marks_it ∙ go (eqb k j) refl
    where
      go : (b : Bool) → eqb k j ≡ b → is_marked n (set m j 1) k ≡ true
      go true t = ap (is_marked n (set m j 1)) (eqb-true k j t) ∙ set_new
      go false t = set_other k (eqb-false k j t) ∙ e

  pub mark_cases : (k : ℕ) → is_marked n (with_mark n m j) k ≡ true → (is_marked n m k ≡ true) ⊎ (k ≡ j)
  mark_cases k e = go (eqb k j) refl
    where
      go : (b : Bool) → eqb k j ≡ b → (is_marked n m k ≡ true) ⊎ (k ≡ j)
      go true t = inr (eqb-true k j t)
      go false t = inl (sym (set_other k (eqb-false k j t)) ∙ sym (ap (λ l. is_marked n l k) marks_it) ∙ e)
