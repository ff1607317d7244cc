-- Columns one after another.
use Rattle.std.specs.Prelude.{◌≡◌, ℕ, ◌<◌, List, length, take, sum, slice_index}

-- columns with as many places as are counted: where each starts, and where the last one ends
pub record Laid (counts starts : List ℕ) (end : ℕ) : Type 0 where
  pub each : (q : ℕ) → q < length counts → slice_index starts q ≡ sum (take q counts)
  pub total : end ≡ sum counts
