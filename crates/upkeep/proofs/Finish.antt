-- A trial in which one qubit is done.
use Rattle.std.proofs.Common.{◌≡◌, ℕ, ◌+◌, ◌<◌, ◌≤◌, Bool, true, false, cond, not, List, length, set, sym, ◌∙◌, add-zero, arith}
use lib.ListN.{length-replicate}
use Rattle.sets.specs.Lists.{Distinct}
use Rattle.sets.specs.Sets.{has, row, plus, empty, only, among, size}
use Rattle.sets.proofs.Sets.{has_empty, only_self}
use Rattle.sets.proofs.Sizes.{size_fewer}
use Rattle.meaning.specs.Meaning.{Meaning, qubits}
use Rattle.rules.specs.Reports.{syndrome}
use Rattle.rules.specs.States.{State, finish, count}
use Rattle.upkeep.specs.Changed.{turned}
use Rattle.upkeep.specs.Counts.{shelf_size}
use Rattle.upkeep.proofs.One.{less_only, plus_only, plus_nothing, syndrome_none, syndrome_one}

-- the marks of a state are as long as the code has qubits and checks
pub record Long (M : Meaning) (s : State) : Type 0 where
  pub erased : length s.erased ≡ qubits M
  pub shelved : length s.shelved ≡ qubits M
  pub flipped : length s.flipped ≡ qubits M
  pub odds : length s.odds ≡ length M.checks

-- the qubit q alone is done, and flipped or not; the list l names each check that holds it, once
module _ (M : Meaning) (s : State) (long : Long M s) (q : ℕ) (low : q < qubits M) (l : List ℕ) (once : Distinct l) (names : (k : ℕ) → k < length M.checks → among k l ≡ has (row M.checks k) q) where
  flipped_one : (f : Bool) → plus s.flipped (cond f (only (qubits M) q) (empty (qubits M))) ≡ cond f (set s.flipped q (not (has s.flipped q))) s.flipped
  flipped_one true = plus_only (qubits M) s.flipped long.flipped q low
  flipped_one false = plus_nothing s.flipped (empty (qubits M)) (long.flipped ∙ sym (length-replicate (qubits M) false)) (has_empty (qubits M))

  turned_one : (f : Bool) → plus s.odds (syndrome M (cond f (only (qubits M) q) (empty (qubits M)))) ≡ cond f (turned l s.odds) s.odds
  turned_one true = sym (syndrome_one M s.odds long.odds q low l once names)
  turned_one false = syndrome_none M s.odds long.odds

  pub finish_one : (f : Bool) → finish M (only (qubits M) q) (cond f (only (qubits M) q) (empty (qubits M))) s ≡
      record {
        erased = set s.erased q false;
        shelved = set s.shelved q false;
        flipped = cond f (set s.flipped q (not (has s.flipped q))) s.flipped;
        closed = s.closed;
        odds = cond f (turned l s.odds) s.odds;
        shelf = s.shelf;
        void = s.void;
        number = s.number;
        peeled = s.peeled;
        pruned = s.pruned;
        chosen = s.chosen;
      }
  finish_one f = λ i.
      record {
        erased = less_only (qubits M) s.erased long.erased q low i;
        shelved = less_only (qubits M) s.shelved long.shelved q low i;
        flipped = flipped_one f i;
        closed = s.closed;
        odds = turned_one f i;
        shelf = s.shelf;
        void = s.void;
        number = s.number;
        peeled = s.peeled;
        pruned = s.pruned;
        chosen = s.chosen;
      }

-- one more is counted
abbrev pub with_counts : State → ℕ → ℕ → ℕ → State
with_counts s p r c =
    record {
      erased = s.erased;
      shelved = s.shelved;
      flipped = s.flipped;
      closed = s.closed;
      odds = s.odds;
      shelf = s.shelf;
      void = s.void;
      number = s.number;
      peeled = p;
      pruned = r;
      chosen = c;
    }

pub count_peeled : (s : State) → with_counts s (s.peeled + 1) s.pruned s.chosen ≡ count 1 0 0 s
count_peeled s = let a = sym (add-zero s.pruned) in let b = sym (add-zero s.chosen) in λ i. with_counts s (s.peeled + 1) (a i) (b i)

pub count_pruned : (s : State) → with_counts s s.peeled (s.pruned + 1) s.chosen ≡ count 0 1 0 s
count_pruned s = let a = sym (add-zero s.peeled) in let b = sym (add-zero s.chosen) in λ i. with_counts s (a i) (s.pruned + 1) (b i)

-- how much is counted, and left
abbrev pub total : State → ℕ
total s = s.peeled + s.pruned + s.chosen + size s.erased + shelf_size s.shelf

-- an erased qubit that is done leaves room to count it
pub room_for_one : (M : Meaning) (s : State) (q : ℕ) (z : List Bool) → q < qubits M → has s.erased q ≡ true → total (finish M (only (qubits M) q) z s) + 1 ≤ total s
room_for_one M s q z low lost = omega (arith, size_fewer s.erased (only (qubits M) q) q lost (only_self (qubits M) q low))
