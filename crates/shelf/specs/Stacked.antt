-- Entries in memory: the records and the members of all of them end to end, oldest first.
use Rattle.std.specs.Prelude.{◌≡◌, ℕ, ◌^◌, ◌<◌, ◌≤◌, List, [], ◌∷◌, length, take, drop, sum_by}
use Rattle.shelf.specs.Shelving.{ToldEntry, Shelving}
use Rattle.shelf.specs.declared.Record.{Record}

-- the entries of these records and members, the newest first, on top of older ones
abbrev pub entries_on : List ToldEntry → List Record → List ℕ → List ToldEntry
entries_on older [] members = older
entries_on older (r ∷ rs) members = entries_on (record { members = take r.count members; check = r.check } ∷ older) rs (drop r.count members)

-- what is seen of so many records and members; the others are nobody's
abbrev pub seen : List Record → ℕ → List ℕ → ℕ → Shelving
seen records len members filled = record { entries = entries_on [] (take len records) (take filled members); qubits = length members; checks = length records }

-- of the slots, so many are held; and the records count each member that is held
pub record Stacked (records : List Record) (len : ℕ) (members : List ℕ) (filled : ℕ) : Type 0 where
  pub records_held : len ≤ length records
  pub members_held : filled ≤ length members
  pub counted : sum_by (λ r. r.count) (take len records) ≡ filled
  pub few : length members < 2 ^ 16
