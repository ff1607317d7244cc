use Rattle.std.proofs.Common.{◌≡◌, ◌-◌, ◌++◌}
use Rattle.played.specs.Reading.{rows_in, after_rows_in}
use Rattle.played.proofs.codes.rows_in.Given as goal

-- what is still to be read, after what was
abbrev pub invariant-loop-read : goal.invariant-loop-read
invariant-loop-read l = record {
  rows : l.rows ++ rows_in (l.count - l._read) l.numbers ≡ rows_in l.count l.initial.numbers;
  rest : after_rows_in (l.count - l._read) l.numbers ≡ after_rows_in l.count l.initial.numbers;
}
