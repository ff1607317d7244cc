-- How often rows name a number: one number more, one row more, and no more than in all.
use Rattle.std.proofs.Common.{◌≡◌, ℕ, zero, suc, ◌+◌, ◌-◌, ◌<◌, ◌≤◌, Bool, true, false, cond, eqb, List, [], ◌∷◌, ◌++◌, length, get_or, take, drop, replicate, sym, refl, ap, ◌∙◌, append-nil, add-one, arith, ltb, ltb-true, ltb-false}
use Rattle.std.proofs.Math.Seq.{drop-cons}
use Rattle.std.proofs.lemmas.List.{get_or_past, take_more, take_all, length-append, length-drop, length-replicate, replicate-append-replicate}
use Rattle.std.proofs.lemmas.List.Sums.{sum_by_more, sum_by-append, sum_by-take-le}
use Rattle.std.proofs.lemmas.List.Folds.{concat-append}
use Rattle.std.specs.List.{concat}
use Rattle.rows.specs.Crossing.{times, namings, namers}

pub times_more : (row : List ℕ) (i q : ℕ) → i < length row → times q (take (i + 1) row) ≡ times q (take i row) + cond (eqb q (get_or row i 0)) 1 0
times_more row i q h = sum_by_more (λ x. cond (eqb q x) 1 0) row i 0 h

pub one_as : (b : Bool) (k : ℕ) → replicate (cond b 1 0) k ≡ cond b (k ∷ []) []
one_as true k = refl
one_as false k = refl

pub namings_more : (row : List ℕ) (i q k : ℕ) → i < length row → namings q k (take (i + 1) row) ≡ namings q k (take i row) ++ cond (eqb q (get_or row i 0)) (k ∷ []) []
namings_more row i q k h =
    ap (λ n. replicate n k) (times_more row i q h)
    ∙ sym (replicate-append-replicate (times q (take i row)) (cond (eqb q (get_or row i 0)) 1 0) k)
    ∙ ap (λ l. namings q k (take i row) ++ l) (one_as (eqb q (get_or row i 0)) k)

-- the row that comes next, where some are left
pub next_row : (rows later : List (List ℕ)) (k : ℕ) (row : List ℕ) → drop k rows ≡ row ∷ later → (row ≡ get_or rows k []) × (later ≡ drop (k + 1) rows)
next_row rows later k row e =
    let low : k < length rows = omega (arith, ap length e, length-drop k rows) in
    let d = drop-cons rows k [] low in
    let a : suc k ≡ k + 1 = omega arith in
    let l : later ≡ drop (suc k) rows = cc in
    (cc, l ∙ ap (λ i. drop i rows) a)

module _ (rows : List (List ℕ)) (q : ℕ) where
  pub namers_more : (k : ℕ) → namers rows q (k + 1) ≡ namers rows q k ++ namings q k (get_or rows k [])
  namers_more k = ap (namers rows q) (add-one k)

  pub length_namers_more : (k : ℕ) → length (namers rows q (k + 1)) ≡ length (namers rows q k) + times q (get_or rows k [])
  length_namers_more k =
      ap length (namers_more k) ∙ length-append (namers rows q k) (namings q k (get_or rows k [])) ∙ ap (λ n. length (namers rows q k) + n) (length-replicate (times q (get_or rows k [])) k)

  -- where no row is left no number is named
  pub namers_past : (k d : ℕ) → (0 < d → drop k rows ≡ []) → namers rows q (d + k) ≡ namers rows q k
  namers_past k zero h = let e : zero + k ≡ k = omega arith in ap (namers rows q) e
  namers_past k (suc d) h =
      let e : suc d + k ≡ suc (d + k) = omega arith in
      let past : length rows ≤ d + k = omega (arith, ap length (h (omega arith)), length-drop k rows) in
      ap (namers rows q) e
      ∙ ap (λ l. namers rows q (d + k) ++ namings q (d + k) l) (get_or_past rows (d + k) [] past)
      ∙ append-nil (namers rows q (d + k))
      ∙ namers_past k d (λ _. h (omega arith))

  front : (k d : ℕ) → length (namers rows q k) ≤ length (namers rows q (d + k))
  front k zero = omega (arith, ap (λ (n : ℕ). length (namers rows q n)) (zero_left k))
    where
      zero_left : (n : ℕ) → zero + n ≡ n
      zero_left n = omega arith
  front k (suc d) =
      let e : suc d + k ≡ suc (d + k) = omega arith in
      omega (arith, front k d, ap (λ (n : ℕ). length (namers rows q n)) e, length-append (namers rows q (d + k)) (namings q (d + k) (get_or rows (d + k) [])))

  pub namers_within : (k n : ℕ) → k < n → length (namers rows q k) + length (namings q k (get_or rows k [])) ≤ length (namers rows q n)
  namers_within k n h = go (n - (k + 1)) (omega arith)
    where
      go : (d : ℕ) → n ≡ d + (k + 1) → length (namers rows q k) + length (namings q k (get_or rows k [])) ≤ length (namers rows q n)
      go d e =
          omega (arith, ap (λ (m : ℕ). length (namers rows q m)) e, front (k + 1) d, length_namers_more k, length-replicate (times q (get_or rows k [])) k)

  -- a row that is gone over in part is within the whole
  pub namers_fit : (k n : ℕ) (row : List ℕ) (i : ℕ) → row ≡ get_or rows k [] → k < n → length (namers rows q k ++ namings q k (take i row)) ≤ length (namers rows q n)
  namers_fit k n row i is h =
      omega (
        arith,
        length-append (namers rows q k) (namings q k (take i row)),
        length-replicate (times q (take i row)) k,
        length-replicate (times q row) k,
        ap (λ l. length (namings q k l)) is,
        sum_by-take-le (λ x. cond (eqb q x) 1 0) row i,
        namers_within k n h,
      )

  -- the rows that come first name a number as often as they do in one
  pub length_namers : (n : ℕ) → length (namers rows q n) ≡ times q (concat (take n rows))
  length_namers zero = refl
  length_namers (suc n) = omega (arith, length-append (namers rows q n) (namings q n (get_or rows n [])), length-replicate (times q (get_or rows n [])) n, length_namers n, one_more (ltb n (length rows)) refl)
    where
      one_more : (b : Bool) → ltb n (length rows) ≡ b → times q (concat (take (suc n) rows)) ≡ times q (concat (take n rows)) + times q (get_or rows n [])
      one_more true e =
          let row = get_or rows n [] in
          let more : take (suc n) rows ≡ take n rows ++ row ∷ [] = rw (← add-one n) (take_more rows n [] (ltb-true n (length rows) e)) in
          ap (times q) (ap concat more ∙ concat-append (take n rows) (row ∷ []) ∙ ap (λ l. concat (take n rows) ++ l) (append-nil row))
          ∙ sum_by-append (λ x. cond (eqb q x) 1 0) (concat (take n rows)) row
      one_more false e =
          let past : length rows ≤ n = omega (arith, ltb-false n (length rows) e) in
          let none : times q (get_or rows n []) ≡ 0 = ap (times q) (get_or_past rows n [] past) in
          omega (arith, none, ap (λ l. times q (concat l)) (take_all (suc n) rows (omega arith) ∙ sym (take_all n rows past)))
