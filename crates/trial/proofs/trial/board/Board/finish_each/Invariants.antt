use Rattle.std.proofs.Common.{◌≡◌, drop}
use Rattle.rules.specs.States.{State}
use Rattle.table.specs.OfTable.{meaning_of}
use Rattle.upkeep.proofs.Every.{each}
use Rattle.trial.specs.Boards.{on_board}
use Rattle.trial.proofs.trial.board.Board.finish_each.Given as goal

-- what is left to do leads to the same end, on the same table
abbrev pub invariant-loop-place : goal.invariant-loop-place
invariant-loop-place l =
    record {
      table : l.self.erasures.table.now ≡ l.fn.self.erasures.table.now;
      does :
          (s : State) → each (meaning_of l.fn.self.erasures.table.now) (drop l.place l.list) (drop l.place l.flips) (on_board l.self s)
          ≡ each (meaning_of l.fn.self.erasures.table.now) l.list l.flips (on_board l.fn.self s);
    }
