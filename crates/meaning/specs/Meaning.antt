-- What a code means, and when such a meaning is sound.
use Rattle.std.specs.Prelude.{◌≡◌, ℕ, ◌≤◌, Bool, false, List, length}
use Rattle.sets.specs.Lists.{In}
use Rattle.sets.specs.Sets.{odd}

-- the qubits of each check, the qubits of each generator, and the side of each qubit (true for side 1); sets are masks
pub record Meaning : Type 0 where
  pub checks : List (List Bool)
  pub generators : List (List Bool)
  pub sides : List Bool

-- how many qubits the code has
abbrev pub qubits : Meaning → ℕ
qubits M = length M.sides

-- a code has 1 to 2048 qubits, at most 1024 checks and at most 1024 generators; each set is one of the code's qubits;
-- and the law of a code: each check shares an even number of qubits with each generator
pub record Sound (M : Meaning) : Type 0 where
  pub some_qubit : 1 ≤ qubits M
  pub few_qubits : qubits M ≤ 2048
  pub few_checks : length M.checks ≤ 1024
  pub few_generators : length M.generators ≤ 1024
  pub checks_range : (c : List Bool) → In c M.checks → length c ≡ qubits M
  pub generators_range : (g : List Bool) → In g M.generators → length g ≡ qubits M
  pub even : (c g : List Bool) → In c M.checks → In g M.generators → odd c g ≡ false

-- the code with checks and generators exchanged; it serves errors of the other type
abbrev pub turned : Meaning → Meaning
turned M = record { checks = M.generators; generators = M.checks; sides = M.sides }
