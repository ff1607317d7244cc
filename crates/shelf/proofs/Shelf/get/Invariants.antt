use Rattle.std.proofs.Common.{◌≡◌, [], take, drop}
use Rattle.shelf.specs.Stacked.{entries_on, Stacked}
use Rattle.shelf.proofs.Shelf.get.Given as goal

-- what is read so far stands on the rest
abbrev pub invariant-loop : goal.invariant-loop
invariant-loop l =
    record {
      stacked : Stacked l.self-inside.records.items l.height l.self-inside.members.items l.end;
      left : entries_on [] (take l.height l.self-inside.records.items) (take l.end l.self-inside.members.items) ≡ drop l.counter l.self.entries;
    }
