-- What is seen of the lists and numbers of a trial.
use Rattle.std.specs.Prelude.{vec_items}
use Rattle.trial.specs.Standing.{Standing, state_of, shelf_of}
use Rattle.trial.specs.declared.trial.Trial.TheInside.{Inside}

abbrev pub standing_of : Inside → Standing
standing_of t =
    record {
      table = t.board.erasures.table.now;
      state = state_of (vec_items t.board.erasures.status) (vec_items t.board.flipped) (vec_items t.closed) (vec_items t.board.odd) (shelf_of t.shelf) t.void t.number t.peeled t.pruned t.chosen;
      sized = t.sized;
    }
