-- A basis as a table: a row for each column, its right side first and then a coefficient for each column, the highest-numbered unknown first.
-- The row of column j is in use if its own coefficient at j is not zero; it is one then, and what stands before it is not read.
use Rattle.std.specs.Prelude.{◌≡◌, ℕ, zero, suc, ◌<◌, ◌≤◌, Bool, true, false, List, [], ◌∷◌, take, drop, slice_index_or}
use Rattle.linear.specs.Field.{Field}
use Rattle.linear.specs.Basis.{Basis, done, free, lead, Insertion, mix, under, insert}

-- the first n rows of s elements each
abbrev pub rows_of : {X : Type 0} → ℕ → ℕ → List X → List (List X)
rows_of s zero t = []
rows_of s (suc n) t = take s t ∷ rows_of s n (drop s t)

-- the row of column j, in a table of width w
abbrev pub row_of : {X : Type 0} → ℕ → List X → ℕ → List X
row_of w t j = slice_index_or (rows_of (suc w) w t) j []

module _ {F : Type 0} (K : Field F) where
  open K use {zer, add, mul, is}

  abbrev pub column_if : Bool → ℕ → List F → Basis F → Basis F
  column_if true j r B = free B
  column_if false j r B = lead (drop (suc (suc j)) r) (slice_index_or r 0 zer) B

  -- column j, whose row is r, above the columns of B
  abbrev pub column : ℕ → List F → Basis F → Basis F
  column j r B = column_if (is (slice_index_or r (suc j) zer) zer) j r B

  -- the columns from j on
  abbrev pub stack : ℕ → List (List F) → Basis F
  stack j [] = done
  stack j (r ∷ rows) = column j r (stack (suc j) rows)

  -- the basis of width w that stands at the front of the table
  abbrev pub basis_of : ℕ → List F → Basis F
  basis_of w t = stack 0 (rows_of (suc w) w t)

  -- whether column j has no row
  abbrev pub is_free : ℕ → List F → ℕ → Bool
  is_free w t j = is (slice_index_or (row_of w t j) (suc j) zer) zer

  -- k times the row R was added to r, which is r' then, on the right side and behind column j
  pub record AddedFrom (j : ℕ) (k : F) (R r r' : List F) : Type 0 where
    pub right : slice_index_or r' 0 zer ≡ add (slice_index_or r 0 zer) (mul k (slice_index_or R 0 zer))
    pub behind : drop (suc (suc j)) r' ≡ mix K k (drop (suc (suc j)) R) (drop (suc (suc j)) r)

  -- the columns before j, put back on an insertion
  abbrev pub wrap : List (List F) → ℕ → Insertion F → Insertion F
  wrap rows zero o = o
  wrap rows (suc j) o = wrap rows j (under (column j (slice_index_or rows j [])) o)

  -- what is left to do with the row r from column j on, put back above the columns passed, is what there was to do with r₀ from the first
  abbrev pub Passed : ℕ → List F → List F → ℕ → List F → Type 0
  Passed w t r₀ j r = wrap (rows_of (suc w) w t) j (insert K (stack j (drop j (rows_of (suc w) w t))) (drop (suc j) r) (slice_index_or r 0 zer)) ≡ insert K (basis_of w t) (drop 1 r₀) (slice_index_or r₀ 0 zer)

  -- r is what is left of r₀ at column j, and there the row has a coefficient and the table no row; or all columns are passed
  pub record Reduced (w : ℕ) (t r₀ : List F) (j : ℕ) (r : List F) : Type 0 where
    pub within : j ≤ w
    pub passed : Passed w t r₀ j r
    pub stops : j < w → (is (slice_index_or r (suc j) zer) zer ≡ false) × (is (slice_index_or (slice_index_or (rows_of (suc w) w t) j []) (suc j) zer) zer ≡ true)
