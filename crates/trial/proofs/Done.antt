-- Qubits that are done: what then stands on the board, and that there is room to count them.
use Rattle.std.proofs.Common.{◌≡◌, ℕ, ◌+◌, ◌<◌, ◌≤◌, Bool, true, false, cond, not, List, [], length, map, set, vec_items, sym, ap, ◌∙◌, subst, arith, refl}
use mathlib.Core.Bool.{beq}
use Rattle.std.proofs.lemmas.List.{length-map, map-set, set-get_or}
use Rattle.sets.specs.Sets.{has, only}
use Rattle.sets.proofs.Sizes.{size_less}
use Rattle.meaning.specs.Meaning.{Meaning, qubits}
use Rattle.rules.specs.declared.answers.Status.{Status}
use Rattle.rules.specs.declared.answers.Status.TheVariants.{Done}
use Rattle.rules.specs.States.{State, finish}
use Rattle.table.specs.Columns.{holders_of}
use Rattle.table.specs.OfTable.{meaning_of}
use Rattle.upkeep.specs.Changed.{changed, turned}
use Rattle.upkeep.specs.Statuses.{is_erased, is_shelved}
use Rattle.upkeep.proofs.Holders.{holders_once, holders_named}
use Rattle.shelf.specs.Shelving.{Shelving}
use Rattle.upkeep.proofs.Finish.{Long, finish_one, total, room_for_one}
use Rattle.table.specs.declared.Table.{Table}
use Rattle.trial.specs.Standing.{Standing, Sized, Equipped}
use Rattle.trial.specs.Seen.{standing_of}
use Rattle.trial.specs.declared.trial.Trial.TheInside.{Inside}
use Rattle.trial.specs.Boards.{placed, on_board, one_done}
use Rattle.trial.specs.declared.trial.board.Board.{Board}

abbrev pub code : Standing → Meaning
code t = meaning_of t.table

abbrev pub code_of : Board → Meaning
code_of b = meaning_of b.erasures.table.now

pub long : (b : Board) (s : State) → Long (code_of b) (on_board b s)
long b s =
    record {
      erased = length-map (vec_items b.erasures.status) is_erased ∙ b.erasures.fit;
      shelved = length-map (vec_items b.erasures.status) is_shelved ∙ b.erasures.fit;
      flipped = b.flips;
      odds = b.odds;
    }

-- no changes, where a test fails
pub changed_if : {X : Type 0} (d : X) (f : X → X) (b : Bool) (l : List ℕ) (xs : List X) → changed d f (cond b l []) xs ≡ cond b (changed d f l xs) xs
changed_if d f true l xs = refl
changed_if d f false l xs = refl

-- the mark x of q turned over, where a test holds
pub turned_if : (m : List Bool) (q : ℕ) (flip x : Bool) → x ≡ has m q → set m q (not (beq x flip)) ≡ cond flip (set m q (not (has m q))) m
turned_if m q true true e = ap (λ y. set m q (not y)) e
turned_if m q true false e = ap (λ y. set m q (not y)) e
turned_if m q false true e = ap (set m q) e ∙ set-get_or m q false
turned_if m q false false e = ap (set m q) e ∙ set-get_or m q false

-- the board b after the qubit q is done there
pub is_done : (b : Board) (status : List Status) (flipped odd : List Bool) (q : ℕ) → q < qubits (code_of b) → (flip : Bool)
    → status ≡ set (vec_items b.erasures.status) q Done
    → flipped ≡ cond flip (set (vec_items b.flipped) q (not (has (vec_items b.flipped) q))) (vec_items b.flipped)
    → odd ≡ cond flip (turned (holders_of (code_of b).checks q) (vec_items b.odd)) (vec_items b.odd)
    → (s : State) → placed status flipped odd s ≡ one_done (code_of b) q flip (on_board b s)
is_done b status flipped odd q low flip done flips turns s =
    let er = ap (map is_erased) done ∙ map-set is_erased (vec_items b.erasures.status) q Done in
    let sh = ap (map is_shelved) done ∙ map-set is_shelved (vec_items b.erasures.status) q Done in
    let set_one : ◌≡◌ {A = State} _ _ = λ i.
    record {
      erased = er i;
      shelved = sh i;
      flipped = flips i;
      closed = s.closed;
      odds = turns i;
      shelf = s.shelf;
      void = s.void;
      number = s.number;
      peeled = s.peeled;
      pruned = s.pruned;
      chosen = s.chosen;
    } in
    set_one ∙ sym (finish_one (code_of b) (on_board b s) (long b s) q low (holders_of (code_of b).checks q) (holders_once (code_of b).checks q) (λ k _. holders_named (code_of b).checks q k) flip)

-- a trial is still of its size with a board on which some qubits k are done
pub still_sized : (t : Inside) (b : Board) (k z : List Bool) → b.erasures.table.now ≡ t.board.erasures.table.now
    → on_board b (standing_of t).state ≡ finish (code_of t.board) k z (standing_of t).state → Sized (code_of b) (on_board b (standing_of t).state)
still_sized t b k z same done =
    let n = ap (λ (x : Table). qubits (meaning_of x)) same in
    record {
      erased = (long b (standing_of t).state).erased;
      shelved = (long b (standing_of t).state).shelved;
      flipped = b.flips;
      closed = t.sized.closed ∙ ap (λ (x : Table). length (meaning_of x).checks) (sym same);
      odds = b.odds;
      few = omega (arith, ap total done, t.sized.few, size_less (standing_of t).state.erased k, n);
      waiting = t.sized.waiting;
    }

-- the same memory serves on the same table, with a list that has as much room
pub still_equipped : (t u : Table) (n m : ℕ) (v : Shelving) (w y : Table) → u ≡ t → m ≡ n → y ≡ w → Equipped t n v w → Equipped u m v y
still_equipped t u n m v w y same room goes e = subst (λ (x : Table). Equipped x m v y) (sym same) (subst (λ (k : ℕ). Equipped t k v y) (sym room) (subst (λ (x : Table). Equipped t n v x) (sym goes) e))

-- an erased qubit that is done leaves room to count it
pub room : (t u : Standing) (q : ℕ) (z : List Bool) → q < qubits (code t) → has t.state.erased q ≡ true → u.state ≡ finish (code t) (only (qubits (code t)) q) z t.state → u.table ≡ t.table
    → total u.state + 1 ≤ qubits (code u)
room t u q z low lost e same = omega (arith, ap total e, room_for_one (code t) t.state q z low lost, t.sized.few, ap (λ x. qubits (meaning_of x)) same)
