use Rattle.std.proofs.Common.{◌≡◌, drop, vec_items}
use Rattle.played.specs.Reading.{shorts}
use Rattle.played.proofs.numbers.Numbers.list.Given as goal

abbrev pub invariant-loop-read : goal.invariant-loop-read
invariant-loop-read l = record {
  items : vec_items l.list ≡ shorts l.initial.self l._read;
  rest : l.self ≡ drop l._read l.initial.self;
}
