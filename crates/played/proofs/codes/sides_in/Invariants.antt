use Rattle.std.proofs.Common.{◌≡◌, map, min, drop, vec_items}
use Rattle.played.specs.Reading.{shorts}
use Rattle.played.proofs.codes.sides_in.Given as goal

abbrev pub invariant-loop-read : goal.invariant-loop-read
invariant-loop-read l = record {
  sides : vec_items l.sides ≡ map (λ side. min side 255) (shorts l.initial.numbers l._read);
  rest : l.numbers ≡ drop l._read l.initial.numbers;
}
