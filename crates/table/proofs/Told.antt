-- Rows that name the elements of sets: they mark these sets, and read crosswise they are these sets read crosswise.
use Rattle.std.proofs.Common.{◌≡◌, ℕ, ◌+◌, ◌<◌, ◌≤◌, Bool, true, false, ltb, ◌⊎◌, List, [], map, length, get_or, sym, refl, ap, ◌∙◌, inl, inr, arith, ltb-false, ltb-true}
use Rattle.std.specs.List.{range_with_len}
use Rattle.std.proofs.lemmas.List.FromFn.{length-map-range_with_len, get_or-map-range_with_len}
use Rattle.std.proofs.lemmas.List.{ext_get_or, length-map, get_or-map, get_or_past, take_all}
use Rattle.sets.specs.Lists.{In}
use Rattle.sets.specs.Sets.{has, row, marks, elements, among, repeats}
use Rattle.sets.proofs.Marks.{length_marks, has_marks}
use Rattle.sets.proofs.Numbers.{in_among, elements_same}
use Rattle.sets.proofs.Sets.{ext, has_below, has_mapped, row_in}
use Rattle.rows.specs.Crossing.{namers}
use Rattle.table.specs.Columns.{holders_of, columns}
use Rattle.table.proofs.Crossed.{namers_are}

-- the row k names the elements of the set k, each once
pub record Told (n : ℕ) (sets : List (List Bool)) (told : ℕ → List ℕ) : Type 0 where
  pub wide : (k : ℕ) → k < length sets → length (row sets k) ≡ n
  pub names : (k : ℕ) → k < length sets → (q : ℕ) → among q (told k) ≡ has (row sets k) q
  pub once : (k : ℕ) → k < length sets → repeats (told k) ≡ false

module _ (n : ℕ) (sets : List (List Bool)) (told : ℕ → List ℕ) (t : Told n sets told) where
  abbrev pub rows : List (List ℕ)
  rows = map told (range_with_len 0 (length sets))

  long : length rows ≡ length sets
  long = length-map-range_with_len told 0 (length sets)

  pub row_at : (k : ℕ) → k < length sets → get_or rows k [] ≡ told k
  row_at k h = let e : 0 + k ≡ k = omega arith in get_or-map-range_with_len told 0 (length sets) k k [] h e

  low : (k : ℕ) → k < length sets → (q : ℕ) → In q (told k) → q < n
  low k h q m = omega (arith, has_below (row sets k) q (sym (t.names k h q) ∙ in_among q (told k) m), t.wide k h)

  set_is : (k : ℕ) → k < length sets → marks n (told k) ≡ row sets k
  set_is k h = ext (marks n (told k)) (row sets k) (length_marks n (told k) ∙ sym (t.wide k h)) (λ q. has_marks n (told k) (low k h) q ∙ t.names k h q)

  pub sets_are : map (marks n) rows ≡ sets
  sets_are =
      let all : length (map (marks n) rows) ≡ length sets = length-map rows (marks n) ∙ long in
      ext_get_or [] (map (marks n) rows) sets all
      (λ k h. get_or-map (marks n) rows k [] [] (omega (arith, all, long)) ∙ ap (marks n) (row_at k (omega (arith, all))) ∙ set_is k (omega (arith, all)))

  same : (q : ℕ) → map (among q) rows ≡ map (λ s. has s q) sets
  same q =
      let all : length (map (among q) rows) ≡ length sets = length-map rows (among q) ∙ long in
      ext_get_or false (map (among q) rows) (map (λ s. has s q) sets) (all ∙ sym (length-map sets (λ s. has s q)))
      (λ k h.
      let l : k < length sets = omega (arith, all) in
      get_or-map (among q) rows k [] false (omega (arith, long))
      ∙ ap (among q) (row_at k l)
      ∙ t.names k l q
      ∙ sym (get_or-map (λ s. has s q) sets k [] false l))

  holders_are : (q : ℕ) → namers rows q (length sets) ≡ holders_of sets q
  holders_are q =
      namers_are rows q (λ k h. ap repeats (row_at k (omega (arith, long))) ∙ t.once k (omega (arith, long))) (length sets) (omega (arith, long))
      ∙ ap elements (take_all (length sets) (map (among q) rows) (omega (arith, long, length-map rows (among q))) ∙ same q)

  pub columns_are : map (λ q. namers rows q (length sets)) (range_with_len 0 n) ≡ columns n sets
  columns_are = λ i. map (λ q. holders_are q i) (range_with_len 0 n)

-- one column; past the last number no set has anything
module _ (n : ℕ) (sets : List (List Bool)) (wide : (s : List Bool) → In s sets → length s ≡ n) (q : ℕ) where
  past : n ≤ q → (d : ℕ) → has (map (λ s. has s q) sets) d ≡ false
  past h d = has_mapped (λ s. has s q) refl sets d ∙ go (row_in sets d)
    where
      go : In (row sets d) sets ⊎ (row sets d ≡ []) → has (row sets d) q ≡ false
      go (inl m) = get_or_past (row sets d) q false (omega (arith, wide (row sets d) m))
      go (inr e) = ap (λ s. has s q) e

  pub column_at : get_or (columns n sets) q [] ≡ holders_of sets q
  column_at = by (ltb q n) refl
    where
      by : (b : Bool) → ltb q n ≡ b → get_or (columns n sets) q [] ≡ holders_of sets q
      by true e = let z : 0 + q ≡ q = omega arith in get_or-map-range_with_len (holders_of sets) 0 n q q [] (ltb-true q n e) z
      by false e =
          let h : n ≤ q = ltb-false q n e in
          get_or_past (columns n sets) q [] (omega (arith, length-map-range_with_len (holders_of sets) 0 n))
          ∙ sym (elements_same 0 (map (λ s. has s q) sets) [] (past h))
