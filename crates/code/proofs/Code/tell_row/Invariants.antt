use Rattle.std.proofs.Common.{◌≡◌, ◌+◌, ◌≤◌, ◌++◌, take, vec_items, vec_len, vec_capacity}
use Rattle.code.proofs.Code.tell_row.Given as goal

-- the first k qubits are told, and there is room for the others
abbrev pub invariant-loop-k : goal.invariant-loop-k
invariant-loop-k g l = (vec_items l.list ≡ vec_items l.initial.list ++ take l.k (g.Self.Code.told l.self l.row)) × (vec_len l.list + l.len ≤ vec_capacity l.list + l.k)
