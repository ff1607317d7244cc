-- Openings and closes on one tally. A slip that was handed out and not taken back is out.
use Rattle.std.specs.Prelude.{ℕ, zero, suc, ◌+◌, true, false, List, [], ◌∷◌, length, Some, None, Ok, Err, Option, Result, nat_lt, slice_index}
use Rattle.terms.specs.declared.refusal.Refusal.{Refusal}
use Rattle.meaning.specs.Meaning.{Meaning}
use Rattle.rules.specs.States.{State}
use Rattle.rules.specs.Tallies.{Tally, new_tally, Opened, open_trial, close}

-- the tally, the numbers of the slips that are out, and how many openings were accepted
pub record Books : Type 0 where
  pub tally : Tally
  pub out : List ℕ
  pub accepted : ℕ

abbrev pub new_books : Books
new_books = record { tally = new_tally; out = []; accepted = 0 }

-- an opening on any code with any lists; or a close of any trial with one of the slips that are out, by its place
pub data Event : Type 0 where
  Opens : Meaning → (lost : List ℕ) → (odds : List ℕ) → Event
  Closes : State → (place : ℕ) → Event

abbrev pub hand_out : Result Opened Refusal × Tally → Books → Books
hand_out (Ok o, t) b = record { tally = t; out = o.slip ∷ b.out; accepted = b.accepted + 1 }
hand_out (Err r, t) b = record { tally = t; out = b.out; accepted = b.accepted }

-- the list without the entry at a place
abbrev pub without : ℕ → List ℕ → List ℕ
without k [] = []
without zero (n ∷ l) = l
without (suc k) (n ∷ l) = n ∷ without k l

-- with the slip that was given back
abbrev pub back_to : Option ℕ → List ℕ → List ℕ
back_to (Some n) l = n ∷ l
back_to None l = l

-- a close that is refused gives its slip back; with no slip to show there is no close
abbrev pub entered : Event → Books → Books
entered (Opens M lost odds) b = hand_out (open_trial M b.tally lost odds) b
entered (Closes s k) b =
    elim (nat_lt k (length b.out)) [
      | true ↦
          record {
            tally = (close s (slice_index b.out k) b.tally).tally;
            out = back_to (close s (slice_index b.out k) b.tally).slip (without k b.out);
            accepted = b.accepted;
          }
      | false ↦ b
    ]

abbrev pub kept : List Event → Books → Books
kept [] b = b
kept (e ∷ events) b = kept events (entered e b)
