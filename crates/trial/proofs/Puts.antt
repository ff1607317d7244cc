-- A cluster that goes on the shelf: there is room, and what then is true of the trial.
use Rattle.std.proofs.Common.{◌≡◌, ℕ, suc, ◌+◌, ◌<◌, ◌≤◌, Bool, true, false, not, ◌&&◌, List, [], ◌∷◌, length, set, vec_items, sym, refl, ap, ap₂, ◌∙◌, subst, inl, inr, arith, length-set}
use Rattle.std.specs.Prelude.{if◌then◌else◌, vec_capacity}
use Rattle.std.proofs.lemmas.Bool.{and_parts, not-true, lt-ltb, le-leb}
use Rattle.std.proofs.lemmas.List.Sums.{sum_by-cons}
use lib.ListN.{length-map}
use Rattle.sets.specs.Sets.{has, size, less, holders, marks, elements}
use Rattle.sets.proofs.Numbers.{length_elements}
use Rattle.sets.proofs.Sets.{has_below, has_less, has_meet, length_over}
use Rattle.sets.proofs.Sizes.{size_length, size_part}
use Rattle.meaning.specs.Meaning.{Meaning, qubits}
use Rattle.rules.specs.States.{Entry, State, shelve}
use Rattle.rules.specs.Clusters.{touched, connecting, other_side}
use Rattle.table.specs.OfTable.{meaning_of}
use Rattle.table.specs.declared.Table.{Table}
use Rattle.upkeep.specs.Counts.{shelf_size}
use Rattle.upkeep.proofs.Finish.{total}
use Rattle.shelf.specs.Shelving.{ToldEntry, Shelving, member_count, has_room, with_entry, entries_of}
use Rattle.shelf.proofs.Stacks.{count_cons}
use Rattle.shelf.proofs.Entries.{length_entries}
use Rattle.shelf.proofs.Room.{size_on}
use Rattle.trial.specs.Boards.{on_board, set_aside}
use Rattle.trial.specs.declared.trial.board.Board.{Board}
use Rattle.trial.specs.Standing.{Sized, Told, Equipped, shelf_of, state_of}
use Rattle.trial.specs.Seen.{standing_of}
use Rattle.trial.specs.declared.trial.Trial.TheInside.{Inside}
use Rattle.trial.proofs.Done.{code_of, long, still_equipped}
use Rattle.trial.proofs.Shelves.{marks_elements}

-- a connecting check is a check of the code, and open
pub open_check : (M : Meaning) (s : State) → length s.closed ≡ length M.checks → (q : ℕ) (k : List Bool) (c : ℕ) → has (connecting M s q k) c ≡ true → (c < length M.checks) × (has s.closed c ≡ false)
open_check M s closed q k c e =
    let touches : has (touched M s k) c ≡ true = (and_parts (has (touched M s k) c) (has (holders M.checks (other_side M s q)) c) (sym (has_meet (touched M s k) (holders M.checks (other_side M s q)) c) ∙ e)).0 in
    let still = (and_parts (has (holders M.checks k) c) (not (has s.closed c)) (sym (has_less (holders M.checks k) s.closed c) ∙ touches)).1 in
    (omega (arith, has_below (touched M s k) c touches, length_over (λ x y. x && not y) (holders M.checks k) s.closed (length M.checks) (length-map M.checks _) closed), not-true (has s.closed c) still)

-- the members of entries that tell theirs once
member_size : (n checks : ℕ) (l : List ToldEntry) → Told n checks l → member_count l ≡ shelf_size (entries_of n l)
member_size n checks [] told = refl
member_size n checks (e ∷ l) told =
    omega (
      arith,
      count_cons e l,
      member_size n checks l (λ d m. told d (inr m)),
      sum_by-cons (λ (d : Entry). size d.members) (record { members = marks n e.members; check = e.check }) (entries_of n l),
      length_elements 0 (marks n e.members),
      ap length (told e (inl refl)).0,
    )

-- the set k of erased qubits of the trial t is to be shelved, at most 256 of them, with an open check
module _ (t : Inside) (k : List Bool) (check : ℕ) (long_k : length k ≡ qubits (code_of t.board)) (few : size k ≤ 256)
    (inside : (i : ℕ) → has k i ≡ true → has (standing_of t).state.erased i ≡ true) (low : check < length (code_of t.board).checks) (still : has (vec_items t.closed) check ≡ false)
    (members : List ℕ) (is : members ≡ elements k) where
  abbrev s : State
  s = (standing_of t).state

  abbrev v : Shelving
  v = t.shelf

  part : size (less s.erased k) + size k ≡ size s.erased
  part = size_part s.erased k (t.sized.erased ∙ sym long_k) inside

  as_many : length members ≡ size k
  as_many = ap length is ∙ length_elements 0 k

  more : size (set (vec_items t.closed) check true) ≡ suc (size (vec_items t.closed))
  more = size_on (vec_items t.closed) check (omega (arith, low, t.sized.closed)) still

  waits : length v.entries ≤ size (vec_items t.closed)
  waits = omega (arith, t.sized.waiting, length_entries v.qubits v.entries)

  there_is_room : has_room v members ≡ true
  there_is_room =
      let place : length v.entries < v.checks = omega (arith, waits, more, size_length (set (vec_items t.closed) check true), length-set (vec_items t.closed) check true, t.sized.closed, t.equipped.entries) in
      let places : member_count v.entries + length members ≤ v.qubits = omega (arith, member_size v.qubits _ v.entries t.equipped.told, as_many, part, t.sized.few, t.equipped.members) in
      ap₂ ◌&&◌ (lt-ltb (length v.entries) v.checks place) (le-leb (member_count v.entries + length members) v.qubits places)

  pub is_put : (b : Bool) (w : Shelving) → b ≡ has_room v members → w ≡ (if b then with_entry v members check else v) → w ≡ with_entry v members check
  is_put b w test e = e ∙ ap (λ (x : Bool). if x then with_entry v members check else v) (test ∙ there_is_room)

  module _ (w : Shelving) (puts : w ≡ with_entry v members check) where
    pub shelf_is : shelf_of w ≡ record { members = k; check = check } ∷ s.shelf
    shelf_is =
        let with_it : List Bool → List Entry = λ m. record { members = m; check = check } ∷ s.shelf in
        ap shelf_of puts ∙ ap with_it (ap (marks v.qubits) is ∙ marks_elements v.qubits k (long_k ∙ sym t.equipped.members))

    module _ (b : Board) (same : b.erasures.table.now ≡ t.board.erasures.table.now) (aside : (r : State) → on_board b r ≡ set_aside k (on_board t.board r)) where
      abbrev later : State
      later = state_of (vec_items b.erasures.status) (vec_items b.flipped) (set (vec_items t.closed) check true) (vec_items b.odd) (shelf_of w) t.void t.number t.peeled t.pruned t.chosen

      -- it is shelved as the rules have it
      pub shelves : later ≡ shelve k check s
      shelves =
          ap (λ (l : List Entry). state_of (vec_items b.erasures.status) (vec_items b.flipped) (set (vec_items t.closed) check true) (vec_items b.odd) l t.void t.number t.peeled t.pruned t.chosen) shelf_is
          ∙ aside (shelve k check s)

      pub sized_put : Sized (code_of b) later
      sized_put =
          let n = ap (λ (x : Table). qubits (meaning_of x)) same in
          let m = ap (λ (x : Table). length (meaning_of x).checks) same in
          record {
            erased = (long b s).erased;
            shelved = (long b s).shelved;
            flipped = b.flips;
            closed = length-set (vec_items t.closed) check true ∙ t.sized.closed ∙ sym m;
            odds = b.odds;
            few = omega (arith, ap total shelves, sum_by-cons (λ (d : Entry). size d.members) (record { members = k; check = check }) s.shelf, part, t.sized.few, n);
            waiting = omega (arith, ap length shelf_is, t.sized.waiting, more);
          }

      pub equipped_put : (n : ℕ) (walks : Table) → n ≡ vec_capacity t.listed → walks ≡ t.walker.table → Equipped b.erasures.table.now n w walks
      equipped_put n walks room goes =
          let e = t.equipped in
          let told : Told v.qubits (length (code_of t.board).checks) (record { members = members; check = check } ∷ v.entries) = λ d m.
          elim m [
            | inl p ↦ subst (λ (x : ToldEntry). (elements (marks v.qubits x.members) ≡ x.members) × (length x.members ≤ 256) × (x.check < length (code_of t.board).checks)) (sym p)
                (ap elements (ap (marks v.qubits) is ∙ marks_elements v.qubits k (long_k ∙ sym e.members)) ∙ sym is, omega (arith, as_many, few), low)
            | inr p ↦ e.told d p
          ] in
          let put : Equipped t.board.erasures.table.now (vec_capacity t.listed) (with_entry v members check) t.walker.table = record { list = e.list; members = e.members; entries = e.entries; told = told; walks = e.walks } in
          still_equipped _ _ _ _ _ _ _ same room goes (subst (λ (x : Shelving). Equipped t.board.erasures.table.now (vec_capacity t.listed) x t.walker.table) (sym puts) put)
