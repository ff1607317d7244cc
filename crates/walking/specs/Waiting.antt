-- Qubits that wait to be visited.
use Rattle.std.specs.Prelude.{ℕ, List}

-- how many there is room for, and which wait; the last is visited next
pub record Waiting : Type 0 where
  pub room : ℕ
  pub list : List ℕ
