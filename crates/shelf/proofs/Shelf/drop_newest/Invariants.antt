use Rattle.std.proofs.Common.{◌≡◌, ◌+◌}
use Rattle.shelf.proofs.Shelf.drop_newest.Given as goal

abbrev pub invariant-loop : goal.invariant-loop
invariant-loop l =
    record {
      members : l.self-inside.members ≡ l.initial.self-inside.members;
      records : l.self-inside.records ≡ l.initial.self-inside.records;
      height : l.self-inside.height ≡ l.initial.self-inside.height;
      filled : l.self-inside.filled + l.counter ≡ l.initial.self-inside.filled;
    }
