-- Columns that take a row's number for each number that the row names.
use Rattle.std.proofs.Common.{◌≡◌, ℕ, ◌+◌, ◌<◌, ◌≤◌, cond, eqb, List, [], ◌∷◌, ◌++◌, length, get_or, take, set, map, sym, ap, ◌∙◌, subst, append_assoc, append-nil, arith}
use Rattle.std.specs.List.{range_with_len, concat}
use Rattle.std.proofs.lemmas.List.{take_all}
use Rattle.std.proofs.lemmas.List.FromFn.{get_or-map-range_with_len, length-map-range_with_len}
use Rattle.rows.specs.Crossing.{times, namings, namers}
use Rattle.rows.proofs.Growing.{Filled, filled_past, filled_more, inside}
use Rattle.rows.proofs.Named.{namings_more, namers_fit, namers_more, length_namers}

-- how long the columns are to be
abbrev pub counts : List (List ℕ) → ℕ → ℕ → List ℕ
counts rows count n = map (λ q. length (namers rows q count)) (range_with_len 0 n)

-- the rows are counted as one
pub counts_joined : (rows : List (List ℕ)) (count n : ℕ) → counts rows count n ≡ map (λ q. times q (concat (take count rows))) (range_with_len 0 n)
counts_joined rows count n i = map (λ q. length_namers rows q count i) (range_with_len 0 n)

-- the first i numbers of row k are marked
pub record Marking (rows : List (List ℕ)) (count n k i : ℕ) (row nexts places : List ℕ) : Type 0 where
  pub filled : Filled (counts rows count n) (λ q. namers rows q k ++ namings q k (take i row)) nexts places
  pub row_is : row ≡ get_or rows k []
  pub low : k < count

pub marking_none : {rows : List (List ℕ)} {count n k : ℕ} {row nexts places : List ℕ} → Filled (counts rows count n) (λ q. namers rows q k) nexts places → row ≡ get_or rows k [] → k < count
    → Marking rows count n k 0 row nexts places
marking_none {rows} {count} {n} {k} {nexts = nexts} {places = places} f is low =
    record { filled = subst (λ g. Filled (counts rows count n) g nexts places) (λ i q. sym (append-nil (namers rows q k)) i) f; row_is = is; low = low }

module _ {rows : List (List ℕ)} {count n k i : ℕ} {row nexts places : List ℕ} (m : Marking rows count n k i row nexts places) where
  pub marking_all : length row ≤ i → Filled (counts rows count n) (λ q. namers rows q (k + 1)) nexts places
  marking_all past =
      let whole : (q : ℕ) → namers rows q k ++ namings q k (take i row) ≡ namers rows q (k + 1) = λ q. ap (λ l. namers rows q k ++ namings q k l) (take_all i row past ∙ m.row_is) ∙ sym (namers_more rows q k) in
      subst (λ g. Filled (counts rows count n) g nexts places) (λ j q. whole q j) m.filled

  module _ (h : i < length row) where
    abbrev q : ℕ
    q = get_or row i 0

    abbrev held' : ℕ → List ℕ
    held' p = namers rows p k ++ namings p k (take (i + 1) row)

    long : length (counts rows count n) ≡ n
    long = length-map-range_with_len (λ p. length (namers rows p count)) 0 n

    more : (p : ℕ) → held' p ≡ (namers rows p k ++ namings p k (take i row)) ++ cond (eqb p q) (k ∷ []) []
    more p = ap (λ l. namers rows p k ++ l) (namings_more row i p k h) ∙ sym (append_assoc (namers rows p k) (namings p k (take i row)) (cond (eqb p q) (k ∷ []) []))

    room : (p : ℕ) → p < length (counts rows count n) → length (held' p) ≤ get_or (counts rows count n) p 0
    room p l = omega (arith, namers_fit rows p k count row (i + 1) m.row_is m.low, get_or-map-range_with_len (λ q. length (namers rows q count)) 0 n p p 0 (omega (arith, long)) (omega arith))

    pub marking_past : length nexts ≤ q → Marking rows count n k (i + 1) row nexts places
    marking_past o = record { filled = filled_past q k more m.filled (omega (arith, m.filled.many)); row_is = m.row_is; low = m.low }

    module _ (next : ℕ) (found : (q < length nexts) × ((d : ℕ) → next ≡ get_or nexts q d)) where
      pub marking_inside : next < length places
      marking_inside = inside q k more m.filled room next (found.1 0) (omega (arith, found.0, m.filled.many))

      pub marking_more : Marking rows count n k (i + 1) row (set nexts q (next + 1)) (set places next k)
      marking_more = record { filled = filled_more q k more m.filled room next (found.1 0) (omega (arith, found.0, m.filled.many)); row_is = m.row_is; low = m.low }
