use Rattle.std.proofs.Common.{◌≡◌, ◌≤◌, ◌++◌, drop, vec_items, vec_len, vec_capacity}
use Rattle.sets.specs.Sets.{elements, elements_from}
use Rattle.upkeep.specs.Statuses.{erased_of}
use Rattle.trial.proofs.trial.erasing.Erasures.list.Given as goal

-- what is listed, and what is left to list
abbrev pub invariant-loop-q : goal.invariant-loop-q
invariant-loop-q l =
    record {
      lists : vec_items l.list ++ elements_from l.q (erased_of (drop l.q l.status-items)) ≡ elements (erased_of l.status-items);
      capacity : vec_capacity l.list ≡ vec_capacity l.fn.list;
      few : vec_len l.list ≤ l.q;
    }
