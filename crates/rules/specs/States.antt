-- The state of a trial, as it is opened, and the ways in which calls change it.
use Rattle.std.specs.Prelude.{ℕ, ◌+◌, Bool, true, false, List, [], ◌∷◌, length, slice_set}
use Rattle.sets.specs.Sets.{join, less, plus, empty}
use Rattle.meaning.specs.Meaning.{Meaning, qubits}
use Rattle.rules.specs.Reports.{Report, syndrome}

-- a shelf entry: a shelved cluster and the check that was closed for it
pub record Entry : Type 0 where
  pub members : List Bool
  pub check : ℕ

-- A qubit is erased, or shelved, or (neither) done; and flipped or not. A check is closed or open, and odd or even.
-- The newest shelf entry comes first. A void trial is one whose report was found to fit no error. `number` is that of the trial's slip
pub record State : Type 0 where
  pub erased : List Bool
  pub shelved : List Bool
  pub flipped : List Bool
  pub closed : List Bool
  pub odds : List Bool
  pub shelf : List Entry
  pub void : Bool
  pub number : ℕ
  pub peeled : ℕ
  pub pruned : ℕ
  pub chosen : ℕ

-- the lost qubits are erased and the reported checks odd; all checks are open, and all else is off, empty or 0
abbrev pub opening : Meaning → Report → ℕ → State
opening M R number =
    record {
      erased = R.lost;
      shelved = empty (qubits M);
      flipped = empty (qubits M);
      closed = empty (length M.checks);
      odds = R.odds;
      shelf = [];
      void = false;
      number = number;
      peeled = 0;
      pruned = 0;
      chosen = 0;
    }

-- the qubits z are flipped, which turns every check that holds one, open or closed; and the qubits k are done
abbrev pub finish : Meaning → List Bool → List Bool → State → State
finish M k z s =
    record {
      erased = less s.erased k;
      shelved = less s.shelved k;
      flipped = plus s.flipped z;
      closed = s.closed;
      odds = plus s.odds (syndrome M z);
      shelf = s.shelf;
      void = s.void;
      number = s.number;
      peeled = s.peeled;
      pruned = s.pruned;
      chosen = s.chosen;
    }

-- the counts grow
abbrev pub count : ℕ → ℕ → ℕ → State → State
count p r c s =
    record {
      erased = s.erased;
      shelved = s.shelved;
      flipped = s.flipped;
      closed = s.closed;
      odds = s.odds;
      shelf = s.shelf;
      void = s.void;
      number = s.number;
      peeled = s.peeled + p;
      pruned = s.pruned + r;
      chosen = s.chosen + c;
    }

abbrev pub voided : State → State
voided s =
    record {
      erased = s.erased;
      shelved = s.shelved;
      flipped = s.flipped;
      closed = s.closed;
      odds = s.odds;
      shelf = s.shelf;
      void = true;
      number = s.number;
      peeled = s.peeled;
      pruned = s.pruned;
      chosen = s.chosen;
    }

-- the qubits k are shelved with the check c, which is closed
abbrev pub shelve : List Bool → ℕ → State → State
shelve k c s =
    record {
      erased = less s.erased k;
      shelved = join s.shelved k;
      flipped = s.flipped;
      closed = slice_set s.closed c true;
      odds = s.odds;
      shelf = record { members = k; check = c } ∷ s.shelf;
      void = s.void;
      number = s.number;
      peeled = s.peeled;
      pruned = s.pruned;
      chosen = s.chosen;
    }

-- the shelf becomes l, and the check c is opened
abbrev pub reopen : ℕ → List Entry → State → State
reopen c l s =
    record {
      erased = s.erased;
      shelved = s.shelved;
      flipped = s.flipped;
      closed = slice_set s.closed c false;
      odds = s.odds;
      shelf = l;
      void = s.void;
      number = s.number;
      peeled = s.peeled;
      pruned = s.pruned;
      chosen = s.chosen;
    }
