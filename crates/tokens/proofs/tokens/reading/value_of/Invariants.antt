use Rattle.std.proofs.Common.{◌≡◌, ◌^◌, ◌<◌, take}
use Rattle.tokens.specs.Tokens.{value_of}
use Rattle.tokens.proofs.tokens.reading.value_of.Given as goal

abbrev pub invariant-loop-b : goal.invariant-loop-b
invariant-loop-b l = record {
  value : l.value ≡ value_of (take l.b-index l.digits);
  low : l.value < 10 ^ l.b-index;
}
