-- How far a walk has come.
use Rattle.std.specs.Prelude.{◌≡◌, ℕ, ◌≤◌, true, false, List, [], length, drop, ◌⊎◌, vec_items, vec_capacity}
use Rattle.sets.specs.Lists.{In, Distinct}
use Rattle.sets.specs.Sets.{has, row, meets}
use Rattle.meaning.specs.Meaning.{Meaning, qubits}
use Rattle.rules.specs.States.{State}
use Rattle.rules.specs.Clusters.{same_side, other_side, Reached}
use Rattle.marks.specs.Marks.{is_marked}
use Rattle.walking.specs.declared.ground.Ground.{Ground}

-- there is room for what may come
pub record Roomy (M : Meaning) (n : ℕ) (m : List ℕ) (g : Ground) : Type 0 where
  pub all : n ≡ qubits M
  pub marks : n ≤ length m
  pub pending : g.pending.room ≡ n
  pub members : n ≤ vec_capacity g.members
  pub internal : length M.checks ≤ vec_capacity g.internal
  pub connecting : length M.checks ≤ vec_capacity g.connecting
  pub met : length (vec_items g.met) ≡ length M.checks

-- the marked qubits are the members and the pending ones, each once, and all of them are reached from q
pub record Marked (M : Meaning) (s : State) (q n : ℕ) (m : List ℕ) (g : Ground) : Type 0 where
  pub listed : (k : ℕ) → is_marked n m k ≡ true → In k (vec_items g.members) ⊎ In k g.pending.list
  pub member : (k : ℕ) → In k (vec_items g.members) → is_marked n m k ≡ true
  pub waits : (k : ℕ) → In k g.pending.list → is_marked n m k ≡ true
  pub members_once : Distinct (vec_items g.members)
  pub pending_once : Distinct g.pending.list
  pub apart : (k : ℕ) → In k (vec_items g.members) → In k g.pending.list → ⊥
  pub reached : (k : ℕ) → is_marked n m k ≡ true → Reached M s q k

-- an open check that holds a marked qubit
pub record Touched (M : Meaning) (s : State) (n : ℕ) (m : List ℕ) (d : ℕ) : Type 0 where
  pub is_open : has s.closed d ≡ false
  pub qubit : ℕ
  pub holds : has (row M.checks d) qubit ≡ true
  pub is_in : is_marked n m qubit ≡ true

-- the checks met are the internal and the connecting ones, each once; they are open, hold a marked qubit, and of the qubits that they hold the erased ones of the side are all marked
pub record Met (M : Meaning) (s : State) (q n : ℕ) (m : List ℕ) (g : Ground) : Type 0 where
  pub listed : (d : ℕ) → has (vec_items g.met) d ≡ true → In d (vec_items g.internal) ⊎ In d (vec_items g.connecting)
  pub internal : (d : ℕ) → In d (vec_items g.internal) → (has (vec_items g.met) d ≡ true) × (meets (row M.checks d) (other_side M s q) ≡ false)
  pub connecting : (d : ℕ) → In d (vec_items g.connecting) → (has (vec_items g.met) d ≡ true) × (meets (row M.checks d) (other_side M s q) ≡ true)
  pub internal_once : Distinct (vec_items g.internal)
  pub connecting_once : Distinct (vec_items g.connecting)
  pub touched : (d : ℕ) → has (vec_items g.met) d ≡ true → Touched M s n m d
  pub swept : (d : ℕ) → has (vec_items g.met) d ≡ true → (k : ℕ) → has (row M.checks d) k ≡ true → has (same_side M s q) k ≡ true → is_marked n m k ≡ true

-- a walk from q that is under way
pub record Walk (M : Meaning) (s : State) (q n : ℕ) (m : List ℕ) (g : Ground) : Type 0 where
  pub roomy : Roomy M n m g
  pub qubits : Marked M s q n m g
  pub checks : Met M s q n m g

-- a walk went on: the members stayed, and no mark was taken back
pub record Onward (n : ℕ) (m : List ℕ) (g : Ground) (n' : ℕ) (m' : List ℕ) (g' : Ground) : Type 0 where
  pub size : n' ≡ n
  pub members : vec_items g'.members ≡ vec_items g.members
  pub met : (d : ℕ) → has (vec_items g.met) d ≡ true → has (vec_items g'.met) d ≡ true
  pub kept : (k : ℕ) → is_marked n m k ≡ true → is_marked n' m' k ≡ true
  pub long : length m' ≡ length m
  pub beyond : drop n' m' ≡ drop n m

-- all open checks of a qubit are met
abbrev pub Visited : Meaning → State → Ground → ℕ → Type 0
Visited M s g i = (d : ℕ) → has s.closed d ≡ false → has (row M.checks d) i ≡ true → has (vec_items g.met) d ≡ true

-- between walks: there is room, nothing waits, and no check is marked as met
pub record Rested (M : Meaning) (g : Ground) : Type 0 where
  pub pending : g.pending.room ≡ qubits M
  pub members : qubits M ≤ vec_capacity g.members
  pub internal : length M.checks ≤ vec_capacity g.internal
  pub connecting : length M.checks ≤ vec_capacity g.connecting
  pub met : length (vec_items g.met) ≡ length M.checks
  pub unmet : (d : ℕ) → has (vec_items g.met) d ≡ false
  pub empty : g.pending.list ≡ []

-- marks of which none is set, one a qubit
pub record Unmarked (M : Meaning) (n : ℕ) (m : List ℕ) : Type 0 where
  pub all : n ≡ qubits M
  pub long : n ≤ length m
  pub unmarked : (k : ℕ) → is_marked n m k ≡ false

-- nothing is found yet
pub record Bare (g : Ground) : Type 0 where
  pub members : vec_items g.members ≡ []
  pub internal : vec_items g.internal ≡ []
  pub connecting : vec_items g.connecting ≡ []

-- other marks in the same bytes
pub record Same (n : ℕ) (m : List ℕ) (n' : ℕ) (m' : List ℕ) : Type 0 where
  pub size : n' ≡ n
  pub long : length m' ≡ length m
  pub beyond : drop n' m' ≡ drop n m

-- a walk that is over: q is marked, nothing waits, and all open checks of the members are met
pub record Over (M : Meaning) (s : State) (q n : ℕ) (m : List ℕ) (g : Ground) : Type 0 where
  pub walk : Walk M s q n m g
  pub first : is_marked n m q ≡ true
  pub visited : (i : ℕ) → In i (vec_items g.members) → Visited M s g i
  pub empty : g.pending.list ≡ []
