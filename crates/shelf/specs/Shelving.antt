-- A shelf as its callers see it, and what the rules see in it.
use Rattle.std.specs.Prelude.{ℕ, ◌+◌, Bool, ◌&&◌, List, ◌∷◌, map, length, drop, sum_by, nat_lt, nat_le}
use Rattle.sets.specs.Sets.{marks}
use Rattle.rules.specs.States.{Entry}

-- an entry with its members told one by one
pub record ToldEntry : Type 0 where
  pub members : List ℕ
  pub check : ℕ

-- what a contract sees of a shelf: its entries, the newest first; and for how many qubits and how many checks there is room
pub record Shelving : Type 0 where
  pub entries : List ToldEntry
  pub qubits : ℕ
  pub checks : ℕ

-- how many members all entries have together
abbrev pub member_count : List ToldEntry → ℕ
member_count l = sum_by (λ e. length e.members) l

-- whether there is room for one more entry, with these members
abbrev pub has_room : Shelving → List ℕ → Bool
has_room s members = nat_lt (length s.entries) s.checks && nat_le (member_count s.entries + length members) s.qubits

abbrev pub with_entry : Shelving → List ℕ → ℕ → Shelving
with_entry s members check = record { entries = record { members = members; check = check } ∷ s.entries; qubits = s.qubits; checks = s.checks }

abbrev pub without_newest : Shelving → Shelving
without_newest s = record { entries = drop 1 s.entries; qubits = s.qubits; checks = s.checks }

-- the entries as the rules have them, over n qubits
abbrev pub entry_of : ℕ → ToldEntry → Entry
entry_of n e = record { members = marks n e.members; check = e.check }

abbrev pub entries_of : ℕ → List ToldEntry → List Entry
entries_of n l = map (entry_of n) l
