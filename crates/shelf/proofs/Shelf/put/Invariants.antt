use Rattle.std.proofs.Common.{◌≡◌, ◌+◌, ◌≤◌, ◌++◌, length, take}
use Rattle.shelf.proofs.Shelf.put.Given as goal

-- what was held stays, and the members read so far stand on it
abbrev pub invariant-loop-q : goal.invariant-loop-q
invariant-loop-q l =
    record {
      records : l.self-inside.records ≡ l.initial.self-inside.records;
      height : l.self-inside.height ≡ l.initial.self-inside.height;
      filled : l.self-inside.filled ≡ l.initial.self-inside.filled;
      room : length l.self-inside.members.items ≡ length l.initial.self-inside.members.items;
      kept : take l.initial.self-inside.filled l.self-inside.members.items ≡ take l.initial.self-inside.filled l.initial.self-inside.members.items;
      put : take l.filled l.self-inside.members.items ≡ take l.initial.self-inside.filled l.initial.self-inside.members.items ++ take l.q-index l.members;
      within : l.filled ≤ length l.self-inside.members.items;
      size : l.filled ≡ l.initial.self-inside.filled + l.q-index;
    }
