use Rattle.std.proofs.Common.{◌≡◌, drop}
use Rattle.rules.specs.CallLists.{after}
use Rattle.table.specs.OfTable.{meaning_of}
use Rattle.decoding.specs.Peeling.{peels}
use Rattle.decoding.proofs.peeling.decode_by_peeling.Given as goal

-- what is left to peel leads to the same end, on the same code
abbrev pub invariant-loop-c : goal.invariant-loop-c
invariant-loop-c g l =
    let M = g.C.Code.meaning l.code in
    record {
      leads : after M l.trial.state (peels l.slip.number (drop l.c-index l.checks)) ≡ after M l.initial.trial.state (peels l.slip.number l.checks);
      same : meaning_of l.trial.table ≡ M;
    }
