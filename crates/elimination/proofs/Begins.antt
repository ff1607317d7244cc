-- A cleared table is the basis with no row.
use Rattle.std.proofs.Common.{◌≡◌, ℕ, zero, suc, ◌+◌, ◌*◌, true, false, ◌↔◌, List, [], ◌∷◌, ◌++◌, length, get_or, take, drop, replicate, sym, refl, ap, ◌∙◌, subst, ap₂, append_assoc, suc-mul, add-one, arith}
use mathlib.Core.Option.{some}
use lib.ListN.{length-replicate}
use Rattle.std.proofs.lemmas.List.{take_at, drop_at, replicate-append-replicate}
use Rattle.linear.specs.Field.{Field}
use Rattle.linear.specs.Basis.{Basis, free, empty}
use Rattle.linear.specs.System.{start}
use Rattle.linear.specs.Theorems.{Null}
use Rattle.elimination.specs.Table.{rows_of, column_if, stack, basis_of}
use Rattle.elimination.specs.Holds.{Stands}
use Rattle.elimination.proofs.Lists.{rev_replicate}

module _ {F : Type 0} (K : Field F) where
  open K use {zer, is, is_refl}

  get_or_zeros : (n i : ℕ) → get_or (replicate n zer) i zer ≡ zer
  get_or_zeros zero i = refl
  get_or_zeros (suc n) zero = refl
  get_or_zeros (suc n) (suc i) = get_or_zeros n i

  stack_clear : (s n j : ℕ) (Q : List F) → stack K j (rows_of s n (replicate (n * s) zer ++ Q)) ≡ empty n
  stack_clear s zero j Q = refl
  stack_clear s (suc n) j Q =
      let e : suc n * s ≡ s + n * s = omega (arith, suc-mul n s) in
      let z : List F = replicate s zer in
      let m : List F = replicate (n * s) zer ++ Q in
      let split : replicate (suc n * s) zer ++ Q ≡ replicate s zer ++ (replicate (n * s) zer ++ Q) =
      ap (λ k. replicate k zer ++ Q) e ∙ ap (λ t. t ++ Q) (sym (replicate-append-replicate s (n * s) zer)) ∙ append_assoc (replicate s zer) (replicate (n * s) zer) Q in
      ap (λ t. stack K j (take s t ∷ rows_of s n (drop s t))) split
      ∙ ap₂ (λ a b. stack K j (a ∷ rows_of s n b)) (take_at z m s (length-replicate s zer)) (drop_at z m s (length-replicate s zer))
      ∙ ap (λ b. column_if K b j z (stack K (suc j) (rows_of s n m))) (ap (λ v. is v zer) (get_or_zeros s (suc j)) ∙ is_refl zer)
      ∙ ap (λ B. free B) (stack_clear s n (suc j) Q)

  start_empty : (n : ℕ) → start K (replicate n true) ≡ empty n
  start_empty zero = refl
  start_empty (suc n) = ap (λ B. free B) (start_empty n)

  null_empty : (n : ℕ) (x : List F) → Null K (empty n) x ↔ ((length x ≡ n) × Unit {0})
  null_empty zero [] = (λ h. (refl, tt), λ h. tt)
  null_empty zero (x ∷ xs) = (λ h. absurd h, λ h. let z = h.0 in omega arith)
  null_empty (suc n) [] = (λ h. absurd h, λ h. let z = h.0 in omega arith)
  null_empty (suc n) (x ∷ xs) = (
    λ h. (ap suc ((null_empty n xs).0 h).0, tt),
    λ h. let z = h.0 in let e : length xs ≡ n = omega arith in (null_empty n xs).1 (e, tt),
  )

  -- a table whose front is clear
  pub clear_empty : (n : ℕ) (t Q : List F) → t ≡ replicate (n * (n + 1)) zer ++ Q → basis_of K n t ≡ empty n
  clear_empty n t Q te = ap (basis_of K n) te ∙ ap (λ s. stack K 0 (rows_of (suc n) n (replicate (n * s) zer ++ Q))) (add-one n) ∙ stack_clear (suc n) n 0 Q

  -- a system with no checks, in a table with no row, and a row whose front is clear
  pub begins : (n : ℕ) (t r : List F) → basis_of K n t ≡ empty n → take (suc n) r ≡ replicate (suc n) zer → Stands K n [] (replicate n zer) false t r
  begins n t r b re =
      record {
        wide = tt;
        long = length-replicate n zer;
        row = re ∙ ap (λ l. zer ∷ l) (sym (rev_replicate n zer));
        found = ap some (ap (start K) (rev_replicate n true) ∙ start_empty n ∙ sym b);
        nulls = λ x. subst (λ (B : Basis F). Null K B x ↔ ((length x ≡ n) × Unit {0})) (sym b) (null_empty n x);
      }
