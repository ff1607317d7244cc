-- Where one qubit is done, no check that does not hold it becomes dangling.
use Rattle.std.proofs.Common.{◌≡◌, ℕ, ◌≤◌, Bool, true, false, cond, not, eqb, ◌&&◌, List, [], length, Ok, Err, Result, sym, refl, ap, ◌∙◌, eqb-true}
use Rattle.std.proofs.lemmas.Bool.{and_parts, not-false}
use Rattle.std.proofs.lemmas.List.{get_or_past}
use Rattle.terms.specs.declared.refusal.Refusal.{Refusal}
use Rattle.sets.specs.Sets.{has, row, meet, less, only, empty, size, lowest}
use Rattle.sets.proofs.Bits.{clash}
use Rattle.sets.proofs.Numbers.{length_elements, elements_same}
use Rattle.sets.proofs.Sets.{has_meet, has_less, only_other, has_any}
use Rattle.sets.proofs.Sizes.{one_of, lowest_has, size_none}
use Rattle.meaning.specs.Meaning.{Meaning, qubits}
use Rattle.rules.specs.States.{State, finish, count}
use Rattle.rules.specs.Calls.{held, dangling, peel_bars, peel, prune_bars, prune}
use Rattle.rules.specs.Companions.{Kept}
use Rattle.rules.proofs.Bars.{Clear, passed, accepted, guarded}
use Rattle.rules.proofs.Refused.{refusals_keep}

size_same : (a b : List Bool) → ((j : ℕ) → has a j ≡ has b j) → size a ≡ size b
size_same a b h = sym (length_elements 0 a) ∙ ap (λ (l : List ℕ). length l) (elements_same 0 a b h) ∙ length_elements 0 b

ok_same : (a b : ℕ) → ◌≡◌ {A = Result ℕ Refusal} (Ok a) (Ok b) → a ≡ b
ok_same a b e = cc

module _ (M : Meaning) (s : State) where
  -- the qubits k, of which there is none but q, are not erased any more
  kept : (k : List Bool) (q : ℕ) → ((i : ℕ) → has k i ≡ true → i ≡ q) → (c : ℕ) → has (row M.checks c) q ≡ false → size (meet (row M.checks c) (less s.erased k)) ≡ size (held M s c)
  kept k q alone c lacks = size_same (meet (row M.checks c) (less s.erased k)) (held M s c) at
    where
      go : (j : ℕ) (r e t : Bool) → has (row M.checks c) j ≡ r → has k j ≡ t → (r && (e && not t)) ≡ (r && e)
      go j false e t f g = refl
      go j true false t f g = refl
      go j true true false f g = refl
      go j true true true f g = absurd (clash (ap (λ i. has (row M.checks c) i) (sym (alone j g)) ∙ f) lacks)

      at : (j : ℕ) → has (meet (row M.checks c) (less s.erased k)) j ≡ has (held M s c) j
      at j =
          has_meet (row M.checks c) (less s.erased k) j
          ∙ ap (λ x. has (row M.checks c) j && x) (has_less s.erased k j)
          ∙ go j (has (row M.checks c) j) (has s.erased j) (has k j) refl refl
          ∙ sym (has_meet (row M.checks c) s.erased j)

  dangling_kept : (k : List Bool) (q : ℕ) → ((i : ℕ) → has k i ≡ true → i ≡ q) → (c : ℕ) → has (row M.checks c) q ≡ false
      → (not (has s.closed c) && eqb (size (meet (row M.checks c) (less s.erased k))) 1) ≡ dangling M s c
  dangling_kept k q alone c lacks = ap (λ n. not (has s.closed c) && eqb n 1) (kept k q alone c lacks)

  -- after a peel that answers q
  pub peel_keeps : (slip p q : ℕ) → (peel M s slip p).0 ≡ Ok q → (c : ℕ) → has (row M.checks c) q ≡ false → dangling M (peel M s slip p).1 c ≡ dangling M s c
  peel_keeps slip p q answer c lacks =
      ap (λ (r : Result ℕ Refusal × State). dangling M r.1 c) is ∙ dangling_kept (held M s p) q alone c lacks
    where
      after : Result ℕ Refusal × State
      after = (Ok (lowest (held M s p)), count 1 0 0 (finish M (held M s p) (cond (has s.odds p) (held M s p) (empty (qubits M))) s))

      clear : Clear (peel_bars M s slip p)
      clear = accepted (peel_bars M s slip p) s after q answer

      is : peel M s slip p ≡ after
      is = passed (peel_bars M s slip p) s after clear

      one : (k : ℕ) × (has (held M s p) k ≡ true) × ((i : ℕ) → has (held M s p) i ≡ true → i ≡ k)
      one = one_of (held M s p) (eqb-true (size (held M s p)) 1 (and_parts (not (has s.closed p)) (eqb (size (held M s p)) 1) (not-false (dangling M s p) clear.1.1.0)).1)

      low : lowest (held M s p) ≡ q
      low = ok_same (lowest (held M s p)) q (sym (ap (λ (r : Result ℕ Refusal × State). r.0) is) ∙ answer)

      alone : (i : ℕ) → has (held M s p) i ≡ true → i ≡ q
      alone i h = one.2 i h ∙ sym (one.2 (lowest (held M s p)) (lowest_has (held M s p) (has_any (held M s p) one.0 one.1))) ∙ low

  -- after a prune of q, refused or not
  pub prune_keeps : (slip q : ℕ) (l : List ℕ) (c : ℕ) → has (row M.checks c) q ≡ false → dangling M (prune M s slip q l).1 c ≡ dangling M s c
  prune_keeps slip q l c lacks =
      guarded (prune_bars M s slip q l) s (Ok tt, count 0 1 0 (finish M (only (qubits M) q) (empty (qubits M)) s)) (λ t. dangling M t c ≡ dangling M s c) refl
      (λ _. dangling_kept (only (qubits M) q) q (λ i h. only_other (qubits M) q i h) c lacks)

  -- no check's number, nothing dangling
  pub none_past : (j : ℕ) → length M.checks ≤ j → dangling M s j ≡ false
  none_past j h =
      ap (λ n. not (has s.closed j) && eqb n 1) (ap (λ r. size (meet r s.erased)) (get_or_past M.checks j [] h) ∙ size_none (λ x. false) (λ _. refl) s.erased) ∙ and_false (not (has s.closed j))
    where
      and_false : (b : Bool) → (b && false) ≡ false
      and_false true = refl
      and_false false = refl

  -- the peel was refused
  pub peel_stays : (slip p : ℕ) (r : Result ℕ Refusal) (t : State) → (r, t) ≡ peel M s slip p → ((q : ℕ) → r ≡ Ok q → ⊥) → t ≡ s
  peel_stays slip p r t e refused = go (peel M s slip p) e ((refusals_keep M s).peel_kept slip p)
    where
      go : (x : Result ℕ Refusal × State) → (r, t) ≡ x → Kept s x → t ≡ s
      go (Ok q, u) e k = absurd (refused q (ap (λ (x : Result ℕ Refusal × State). x.0) e))
      go (Err f, u) e k = ap (λ (x : Result ℕ Refusal × State). x.1) e ∙ k
