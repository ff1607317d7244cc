-- How a code answers questions about its meaning. `told` is the order in which it tells the qubits of each row.
use Rattle.std.specs.Prelude.{◌≡◌, ℕ, Bool, true, false, ◌&&◌, List, length, Some, None, Option, nat_lt, slice_index}
use Rattle.terms.specs.declared.row.Row.{Row}
use Rattle.terms.specs.declared.row.Row.TheVariants.{Check, Generator}
use Rattle.terms.specs.declared.row.Side.{Side}
use Rattle.terms.specs.Rows.{side_of}
use Rattle.sets.specs.Sets.{has, row, among, repeats}
use Rattle.meaning.specs.Meaning.{Meaning, qubits}

-- whether the code has the row
abbrev pub is_row : Meaning → Row → Bool
is_row M (Check k) = nat_lt k (length M.checks)
is_row M (Generator k) = nat_lt k (length M.generators)

-- the qubits of a row, as a set
abbrev pub row_set : Meaning → Row → List Bool
row_set M (Check k) = row M.checks k
row_set M (Generator k) = row M.generators k

-- every row of the code is told whole: each qubit of its set, once, and no other
pub record Tells (M : Meaning) (told : Row → List ℕ) : Type 0 where
  pub names : (r : Row) → is_row M r ≡ true → (q : ℕ) → among q (told r) ≡ has (row_set M r) q
  pub once : (r : Row) → is_row M r ≡ true → repeats (told r) ≡ false

-- the answer x to a question that is in range, and no answer otherwise
abbrev pub within_range : {X : Type 0} → Bool → X → Option X
within_range true x = Some x
within_range false x = None

-- the side of the qubit q
abbrev pub side : Meaning → ℕ → Option Side
side M q = within_range (nat_lt q (qubits M)) (side_of (has M.sides q))

-- how many qubits the row r has
abbrev pub row_size : Meaning → (Row → List ℕ) → Row → Option ℕ
row_size M told r = within_range (is_row M r) (length (told r))

-- the k-th qubit of the row r, from 0
abbrev pub row_qubit : Meaning → (Row → List ℕ) → Row → ℕ → Option ℕ
row_qubit M told r k = within_range (is_row M r && nat_lt k (length (told r))) (slice_index (told r) k)
