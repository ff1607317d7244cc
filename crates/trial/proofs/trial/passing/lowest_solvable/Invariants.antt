use Rattle.std.proofs.Common.{◌≡◌, ℕ, true, false}
use Rattle.std.specs.List.{find, range_with_len}
use Rattle.sets.specs.Sets.{has}
use Rattle.meaning.specs.Meaning.{qubits}
use Rattle.rules.specs.States.{State}
use Rattle.rules.specs.Run.{can_solve}
use Rattle.running.specs.Finding.{numbers_from}
use Rattle.table.specs.OfTable.{meaning_of}
use Rattle.trial.specs.Passing.{ShownBy}
use Rattle.trial.proofs.trial.passing.lowest_solvable.Given as goal

-- none of the qubits looked at is wanted, nor any that is marked
abbrev pub invariant-loop-q : goal.invariant-loop-q
invariant-loop-q l =
    let M = meaning_of l.board.erasures.table.now in
    record {
      walks : l.walker.table ≡ l.board.erasures.table.now;
      scratch : l.scratch ≡ l.fn.scratch;
      leads : (s : State) → ShownBy l.board.erasures.status.items l.closed l.void s → find (can_solve M l.fn.scratch s) (numbers_from l.q (qubits M)) ≡ find (can_solve M l.fn.scratch s) (range_with_len 0 (qubits M));
      marks : (s : State) → ShownBy l.board.erasures.status.items l.closed l.void s → (j : ℕ) → has l.passed j ≡ true → can_solve M l.fn.scratch s j ≡ false;
    }
