-- What is counted was lost: peeled, pruned and chosen, with what is still erased or shelved, are no more than the lost qubits.
use Rattle.std.proofs.Common.{◌≡◌, ℕ, zero, suc, ◌+◌, ◌/◌, ◌^◌, ◌<◌, ◌≤◌, Bool, true, false, leb, List, [], ◌∷◌, map, length, sym, refl, ap, ◌∙◌, subst, arith, length-append, leb-false}
use Rattle.std.proofs.lemmas.Bool.{and_parts, or_left}
use native.Mathlib.Nat.{two-pow-succ}
use lib.ListN.{length-map}
use Rattle.sets.specs.Sets.{has, row, less, only, empty, size}
use Rattle.sets.proofs.Sets.{has_meet, has_below, only_other, only_self, length_only}
use Rattle.meaning.specs.Meaning.{Meaning, Sound, qubits}
use Rattle.linear.specs.System.{keep, keep_if}
use Rattle.linear.specs.Subsets.{subsets, explains}
use Rattle.rules.specs.Reports.{Report, For}
use Rattle.rules.specs.Systems.{rows, solutions, log2, slack}
use Rattle.rules.specs.States.{State, opening, reopen}
use Rattle.rules.specs.Clusters.{touched, cluster, internal}
use Rattle.rules.specs.Calls.{held}
use Rattle.rules.specs.CallLists.{after}
use Rattle.rules.specs.Moves.{Move, Moves, stays, peels, prunes, solves, shelves, fails, sweeps, sweep_fails, settles, arrived, moved, solve_from, sweep_from}
use Rattle.rules.specs.Companions.{Counted, CountsStay}
use Rattle.sets.proofs.Sizes.{size_some, size_less, size_part, size_join}
use Rattle.rules.proofs.Cluster.{cluster_long, cluster_erased}
use Rattle.rules.proofs.Shelf.{shelved_by, Good, Inv}
use Rattle.rules.proofs.Steps.{held_long, product_erased}
use Rattle.rules.proofs.Calls.{after_moves}
use Rattle.rules.proofs.Openings.{always}
use Rattle.rules.proofs.Law.{Truth, live, move_truth, open_truth}

-- a system has no more solutions than its unknowns have subsets
length_subsets : (m : List Bool) → length (subsets m) ≡ 2 ^ size m
length_subsets [] = refl
length_subsets (true ∷ m) =
    length-append (map (λ x. false ∷ x) (subsets m)) (map (λ x. true ∷ x) (subsets m))
    ∙ omega (arith, length-map (subsets m) (λ x. false ∷ x), length-map (subsets m) (λ x. true ∷ x), length_subsets m, two-pow-succ (size m))
length_subsets (false ∷ m) = length-map (subsets m) (λ x. false ∷ x) ∙ length_subsets m

length_keep : {X : Type 0} (p : X → Bool) (l : List X) → length (keep p l) ≤ length l
length_keep p [] = omega arith
length_keep {X} p (x ∷ l) = go (p x) (length_keep p l)
  where
    go : (t : Bool) → length (keep p l) ≤ length l → length (keep_if t x (keep p l)) ≤ suc (length l)
    go true h = omega arith
    go false h = omega arith

log_below : (turns n k : ℕ) → n ≤ 2 ^ k → log2 turns n ≤ k
log_below zero n k h = omega arith
log_below (suc t) n zero h = go (leb n 1) refl
  where
    go : (b : Bool) → leb n 1 ≡ b → (elim b [ true ↦ 0 | false ↦ suc (log2 t (n / 2)) ]) ≤ 0
    go true e = omega arith
    go false e = absurd (omega (arith, leb-false n 1 e))
log_below (suc t) n (suc k) h = go (leb n 1) (log_below t (n / 2) k (omega (arith, two-pow-succ k)))
  where
    go : (b : Bool) → log2 t (n / 2) ≤ k → (elim b [ true ↦ 0 | false ↦ suc (log2 t (n / 2)) ]) ≤ suc k
    go true ih = omega arith
    go false ih = omega arith

pub slack_below : (C : List (List Bool)) (K A s : List Bool) → slack (solutions C K A s) ≤ size K
slack_below C K A s = log_below (length (solutions C K A s)) (length (solutions C K A s)) (size K) (omega (arith, length_keep (explains (rows C A s)) (subsets K), length_subsets K))

module _ (M : Meaning) (sound : Sound M) (R : Report) (for : For M R) where
  -- how much is counted and left
  abbrev total : State → ℕ
  total s = s.peeled + s.pruned + s.chosen + size s.erased + size s.shelved

  -- erased qubits k are done, and no more than they are counted
  finished : (s : State) (k : List Bool) (a b c : ℕ) → length s.erased ≡ length k → ((i : ℕ) → has k i ≡ true → has s.erased i ≡ true) → a + b + c ≤ size k
      → (s.peeled + a) + (s.pruned + b) + (s.chosen + c) + size (less s.erased k) + size (less s.shelved k) ≤ total s
  finished s k a b c l sub few = omega (arith, size_part s.erased k l sub, size_less s.shelved k)

  step : (s t : State) → Move M s t → Truth M sound R for s → total t ≤ total s
  step s t (stays e) h = omega (arith, ap total e)
  step s t (peels c v o one e) h =
      let i : Inv M sound R for s = live M sound R for s v h in
      subst (λ (x : State). total x ≤ total s) (sym e) (finished s (held M s c) 1 0 0 (i.erased_long ∙ sym (held_long M sound R for s i c o one))
      (λ j q. (and_parts (has (row M.checks c) j) (has s.erased j) (sym (has_meet (row M.checks c) s.erased j) ∙ q)).1) (omega arith))
  step s t (prunes q l v named out on e) h =
      let i : Inv M sound R for s = live M sound R for s v h in
      let here : has s.erased q ≡ true = product_erased M s.erased l out q on in
      let below : q < qubits M = omega (arith, has_below s.erased q here, i.erased_long) in
      subst (λ (x : State). total x ≤ total s) (sym e) (finished s (only (qubits M) q) 0 1 0 (i.erased_long ∙ sym (length_only (qubits M) q))
      (λ j p. ap (has s.erased) (only_other (qubits M) q j p) ∙ here) (omega (arith, size_some (only (qubits M) q) q (only_self (qubits M) q below))))
  step s t (solves q z v on few no_way m e) h =
      let i : Inv M sound R for s = live M sound R for s v h in
      subst (λ (x : State). total x ≤ total s) (sym e) (finished s (cluster M s q) 0 0 (slack (solve_from M s q)) (i.erased_long ∙ sym (cluster_long M sound s i.erased_long q on))
      (cluster_erased M sound s i.erased_long q on) (omega (arith, slack_below M.checks (cluster M s q) (internal M s q (cluster M s q)) s.odds)))
  step s t (shelves q z v on few way m e) h =
      let i : Inv M sound R for s = live M sound R for s v h in
      let l : length (cluster M s q) ≡ qubits M = cluster_long M sound s i.erased_long q on in
      subst (λ (x : State). total x ≤ total s) (sym e)
      (omega (arith, size_part s.erased (cluster M s q) (i.erased_long ∙ sym l) (cluster_erased M sound s i.erased_long q on), size_join s.shelved (cluster M s q) (i.shelved_long ∙ sym l)))
  step s t (fails q v on e0 e) h = omega (arith, ap total e)
  step s t (sweeps z v m e) h =
      subst (λ (x : State). total x ≤ total s) (sym e) (finished s s.erased 0 0 (slack (sweep_from M s)) refl (λ j q. q) (omega (arith, slack_below M.checks s.erased (touched M s s.erased) s.odds)))
  step s t (sweep_fails v e0 e) h = omega (arith, ap total e)
  step s t (settles x l z v off newest m e) h =
      let i : Inv M sound R for s = live M sound R for s v h in
      let long : length x.members ≡ qubits M = (subst (Good M) newest i.good).0.long in
      let inside : (j : ℕ) → has x.members j ≡ true → has s.shelved j ≡ true = λ j q. i.shelved_is j ∙ ap (λ y. shelved_by y j) newest ∙ or_left (has x.members j) (shelved_by l j) q in
      subst (λ (y : State). total y ≤ total s) (sym e)
      (omega (arith, size_part s.shelved x.members (i.shelved_long ∙ sym long) inside, size_less s.erased x.members, slack_below M.checks x.members (touched M (reopen x.check l s) x.members) s.odds))

  steps : (t s : State) → Moves M t s → Truth M sound R for s → total t ≤ total s
  steps t s arrived h = omega arith
  steps t s (moved {u = u} m r) h = omega (arith, step s u m h, steps t u r (move_truth M sound R for s u m h))

  size_empty : (n : ℕ) → size (empty n) ≡ 0
  size_empty zero = refl
  size_empty (suc n) = size_empty n

pub counts_stay : CountsStay
counts_stay = always Counted (λ M sound R for number calls.
    let s : State = opening M R number in
    omega (arith, steps M sound R for (after M s calls) s (after_moves M s calls) (open_truth M sound R for number), size_empty M sound R for (qubits M)))
