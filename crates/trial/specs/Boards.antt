-- What stands on a board, as the rules have it.
use Rattle.std.specs.Prelude.{ℕ, Bool, cond, List, vec_items}
use Rattle.sets.specs.Sets.{join, less, only, empty}
use Rattle.meaning.specs.Meaning.{Meaning, qubits}
use Rattle.rules.specs.declared.answers.Status.{Status}
use Rattle.rules.specs.States.{State, finish}
use Rattle.upkeep.specs.Statuses.{erased_of, shelved_of}
use Rattle.trial.specs.declared.trial.board.Board.{Board}

-- the state s, but with these statuses of the qubits, these flipped qubits and these odd checks
abbrev pub placed : List Status → (flipped odd : List Bool) → State → State
placed status flipped odd s =
    record {
      erased = erased_of status;
      shelved = shelved_of status;
      flipped = flipped;
      closed = s.closed;
      odds = odd;
      shelf = s.shelf;
      void = s.void;
      number = s.number;
      peeled = s.peeled;
      pruned = s.pruned;
      chosen = s.chosen;
    }

abbrev pub on_board : Board → State → State
on_board b s = placed (vec_items b.erasures.status) (vec_items b.flipped) (vec_items b.odd) s

-- the qubit q alone is done, and flipped or not
abbrev pub one_done : Meaning → ℕ → Bool → State → State
one_done M q flip s = finish M (only (qubits M) q) (cond flip (only (qubits M) q) (empty (qubits M))) s

-- the qubits k are shelved
abbrev pub set_aside : List Bool → State → State
set_aside k s =
    record {
      erased = less s.erased k;
      shelved = join s.shelved k;
      flipped = s.flipped;
      closed = s.closed;
      odds = s.odds;
      shelf = s.shelf;
      void = s.void;
      number = s.number;
      peeled = s.peeled;
      pruned = s.pruned;
      chosen = s.chosen;
    }
