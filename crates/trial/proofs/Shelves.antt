-- Qubits that are shelved.
use Rattle.std.proofs.Common.{◌≡◌, ℕ, ◌<◌, ◌≤◌, Bool, true, false, cond, not, ◌&&◌, ◌||◌, List, [], ◌∷◌, length, set, vec_items, sym, refl, ap, ◌∙◌, ◌⊎◌, inl, inr, arith}
use Rattle.std.proofs.lemmas.Bool.{cases_lt}
use Rattle.std.proofs.lemmas.List.{length-map, map-set, get_or_past}
use Rattle.sets.specs.Lists.{In}
use Rattle.sets.specs.Sets.{has, join, less, empty, marks, elements}
use Rattle.sets.proofs.Marks.{length_marks, has_marks}
use Rattle.sets.proofs.Numbers.{elements_distinct, element_has}
use Rattle.sets.proofs.Sets.{ext, length_over, has_less, has_join, has_below}
use Rattle.rules.specs.declared.answers.Status.{Status}
use Rattle.rules.specs.declared.answers.Status.TheVariants.{Shelved, Done}
use Rattle.upkeep.specs.Changed.{changed, marked}
use Rattle.upkeep.specs.Statuses.{is_erased, is_shelved, erased_of, shelved_of}
use Rattle.upkeep.proofs.Changed.{length_changed, changed_at, marked_at}
use Rattle.upkeep.proofs.Holders.{among_elements}
use Rattle.upkeep.proofs.Opened.{marked_marks}
use Rattle.rules.specs.States.{State}
use Rattle.trial.specs.Boards.{placed, on_board, set_aside}
use Rattle.trial.specs.declared.trial.board.Board.{Board}
use Rattle.trial.specs.declared.trial.erasing.Erasures.{Erasures}
use Rattle.trial.proofs.Sweeps.{none_past}

-- of the statuses other than erased, whichever a qubit gets leaves the same qubits erased
pub out_alike : (status : List Status) (q : ℕ) (a b : Status) → is_erased a ≡ is_erased b → erased_of (set status q a) ≡ erased_of (set status q b)
out_alike status q a b e = map-set is_erased status q a ∙ ap (set (erased_of status) q) e ∙ sym (map-set is_erased status q b)

shelved_out : (l : List ℕ) (st : List Status) → erased_of (changed Done (λ _. Shelved) l st) ≡ changed false (λ _. false) l (erased_of st)
shelved_out [] st = refl
shelved_out (k ∷ l) st = shelved_out l (set st k Shelved) ∙ ap (changed false (λ _. false) l) (map-set is_erased st k Shelved)

shelved_in : (l : List ℕ) (st : List Status) → shelved_of (changed Done (λ _. Shelved) l st) ≡ marked l (shelved_of st)
shelved_in [] st = refl
shelved_in (k ∷ l) st = shelved_in l (set st k Shelved) ∙ ap (marked l) (map-set is_shelved st k Shelved)

-- marks at the elements of a set, cleared and set
module _ (m k : List Bool) (same : length k ≡ length m) where
  cleared_less : changed false (λ _. false) (elements k) m ≡ less m k
  cleared_less = ext (changed false (λ _. false) (elements k) m) (less m k) (long ∙ sym long_less) (λ i. go i (cases_lt i (length m)))
    where
      long : length (changed false (λ (_ : Bool). false) (elements k) m) ≡ length m
      long = length_changed false (λ (_ : Bool). false) (elements k) m

      long_less : length (less m k) ≡ length m
      long_less = length_over (λ x y. x && not y) m k (length m) refl same

      off : (x y : Bool) → cond y false x ≡ (x && not y)
      off true true = refl
      off false true = refl
      off true false = refl
      off false false = refl

      go : (i : ℕ) → (i < length m) ⊎ (length m ≤ i) → has (changed false (λ (_ : Bool). false) (elements k) m) i ≡ has (less m k) i
      go i (inl h) = changed_at false (λ (_ : Bool). false) (elements k) m (elements_distinct 0 k) i h ∙ ap (λ t. cond t false (has m i)) (among_elements k i) ∙ off (has m i) (has k i) ∙ sym (has_less m k i)
      go i (inr h) = get_or_past (changed false (λ (_ : Bool). false) (elements k) m) i false (omega (arith, long)) ∙ sym (get_or_past (less m k) i false (omega (arith, long_less)))

  marked_join : marked (elements k) m ≡ join m k
  marked_join = ext (marked (elements k) m) (join m k) (long ∙ sym long_join) (λ i. go i (cases_lt i (length m)))
    where
      long : length (marked (elements k) m) ≡ length m
      long = length_changed false (λ _. true) (elements k) m

      long_join : length (join m k) ≡ length m
      long_join = length_over ◌||◌ m k (length m) refl same

      or_swap : (x y : Bool) → (y || x) ≡ (x || y)
      or_swap true true = refl
      or_swap false true = refl
      or_swap true false = refl
      or_swap false false = refl

      go : (i : ℕ) → (i < length m) ⊎ (length m ≤ i) → has (marked (elements k) m) i ≡ has (join m k) i
      go i (inl h) = marked_at (elements k) m i h ∙ ap (λ t. t || has m i) (among_elements k i) ∙ or_swap (has m i) (has k i) ∙ sym (has_join m k i)
      go i (inr h) = get_or_past (marked (elements k) m) i false (omega (arith, long)) ∙ sym (get_or_past (join m k) i false (omega (arith, long_join)))

-- the members of a set, shelved
module _ (k : List Bool) (status later : List Status) (same : length k ≡ length status) (shelves : later ≡ changed Done (λ _. Shelved) (elements k) status) where
  pub erased_less : erased_of later ≡ less (erased_of status) k
  erased_less = ap erased_of shelves ∙ shelved_out (elements k) status ∙ cleared_less (erased_of status) k (same ∙ sym (length-map status is_erased))

  pub shelved_join : shelved_of later ≡ join (shelved_of status) k
  shelved_join = ap shelved_of shelves ∙ shelved_in (elements k) status ∙ marked_join (shelved_of status) k (same ∙ sym (length-map status is_shelved))

-- a set by its elements
module _ (n : ℕ) (k : List Bool) (long : length k ≡ n) where
  pub marks_elements : marks n (elements k) ≡ k
  marks_elements = ext (marks n (elements k)) k (length_marks n (elements k) ∙ sym long) (λ q. has_marks n (elements k) low q ∙ among_elements k q)
    where
      low : (q : ℕ) → In q (elements k) → q < n
      low q m = omega (arith, has_below k q (element_has k q m), long)

  pub marked_elements : marked (elements k) (empty n) ≡ k
  marked_elements = marked_marks n (elements k) (none_past k (elements k) refl n long) ∙ marks_elements

-- a board whose qubits k are shelved
pub aside : (b : Board) (e : Erasures) (k : List Bool) → length k ≡ length (vec_items b.erasures.status) → vec_items e.status ≡ changed Done (λ _. Shelved) (elements k) (vec_items b.erasures.status)
    → (s : State) → placed (vec_items e.status) (vec_items b.flipped) (vec_items b.odd) s ≡ set_aside k (on_board b s)
aside b e k same shelves s =
    let er = erased_less k (vec_items b.erasures.status) (vec_items e.status) same shelves in
    let sh = shelved_join k (vec_items b.erasures.status) (vec_items e.status) same shelves in
    λ i.
    record {
      erased = er i;
      shelved = sh i;
      flipped = vec_items b.flipped;
      closed = s.closed;
      odds = vec_items b.odd;
      shelf = s.shelf;
      void = s.void;
      number = s.number;
      peeled = s.peeled;
      pruned = s.pruned;
      chosen = s.chosen;
    }
