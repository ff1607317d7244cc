-- A trial as its callers see it: its table, its state as the rules have it, and what is true of every one.
use Rattle.std.specs.Prelude.{◌≡◌, ℕ, ◌+◌, ◌<◌, ◌≤◌, Bool, List, length}
use Rattle.sets.specs.Lists.{In}
use Rattle.sets.specs.Sets.{size, elements, marks}
use Rattle.shelf.specs.Shelving.{ToldEntry, Shelving, entries_of}
use Rattle.meaning.specs.Meaning.{Meaning, qubits}
use Rattle.rules.specs.declared.answers.Status.{Status}
use Rattle.rules.specs.States.{Entry, State}
use Rattle.table.specs.OfTable.{meaning_of}
use Rattle.table.specs.declared.Table.{Table}
use Rattle.upkeep.specs.Counts.{shelf_size}
use Rattle.upkeep.specs.Statuses.{erased_of, shelved_of}

-- what is true of every trial: there is a mark for each qubit and each check of the code;
-- the counts, the erased qubits and the members of the shelf come to no more than the qubits, so that no count overflows;
-- and the shelf's entries are no more than the closed checks, so that there is room for one more while a check is open
pub record Sized (M : Meaning) (s : State) : Type 0 where
  pub erased : length s.erased ≡ qubits M
  pub shelved : length s.shelved ≡ qubits M
  pub flipped : length s.flipped ≡ qubits M
  pub closed : length s.closed ≡ length M.checks
  pub odds : length s.odds ≡ length M.checks
  pub few : s.peeled + s.pruned + s.chosen + size s.erased + shelf_size s.shelf ≤ qubits M
  pub waiting : length s.shelf ≤ size s.closed

-- what a contract sees of a trial
pub record Standing : Type 0 where
  pub table : Table
  pub state : State
  pub sized : Sized (meaning_of table) state

-- the state that lists of statuses and marks, the shelf, the void mark, the slip's number and the counts make
abbrev pub state_of : List Status → (flipped closed odd : List Bool) → (shelf : List Entry) → (void : Bool) → (number peeled pruned chosen : ℕ) → State
state_of status flipped closed odd shelf void number peeled pruned chosen =
    record {
      erased = erased_of status;
      shelved = shelved_of status;
      flipped = flipped;
      closed = closed;
      odds = odd;
      shelf = shelf;
      void = void;
      number = number;
      peeled = peeled;
      pruned = pruned;
      chosen = chosen;
    }

-- of a shelf of a code with n qubits and so many checks: each entry tells its members rising, they are at most 256, and its check is one of the code
abbrev pub Told : ℕ → ℕ → List ToldEntry → Type 0
Told n checks l = (e : ToldEntry) → In e l → (elements (marks n e.members) ≡ e.members) × (length e.members ≤ 256) × (e.check < checks)

-- what is on the shelf, as the rules have it
abbrev pub shelf_of : Shelving → List Entry
shelf_of v = entries_of v.qubits v.entries

-- the memory of a trial on the code of t: room to list so many qubits, all of them at least; the shelf of that code; and walks over it
pub record Equipped (t : Table) (listed : ℕ) (shelf : Shelving) (walked : Table) : Type 0 where
  pub list : qubits (meaning_of t) ≤ listed
  pub members : shelf.qubits ≡ qubits (meaning_of t)
  pub entries : shelf.checks ≡ length (meaning_of t).checks
  pub told : Told shelf.qubits (length (meaning_of t).checks) shelf.entries
  pub walks : walked ≡ t
