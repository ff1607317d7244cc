use Rattle.std.proofs.Common.{◌≡◌, ◌+◌, ◌≤◌, ◌++◌, length, vec_items, vec_len, vec_capacity}
use Rattle.product.specs.Parts.{part_told}
use Rattle.product.proofs.part.Part.tell.Given as goal

abbrev pub invariant-loop-qubit : goal.invariant-loop-qubit
invariant-loop-qubit l = record {
  told : vec_items l.list ++ part_told l.qubit-iterator ≡ vec_items l.initial.list ++ part_told l.fn.self;
  room : vec_len l.list + length (part_told l.qubit-iterator) ≤ vec_capacity l.list;
  same : vec_capacity l.list ≡ vec_capacity l.initial.list;
}
