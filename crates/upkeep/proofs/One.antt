-- One qubit that is done, and the checks that turn with it.
use Rattle.std.proofs.Common.{◌≡◌, ℕ, ◌<◌, ◌≤◌, Bool, true, false, cond, not, ◌&&◌, ◌⊎◌, List, length, set, sym, refl, ap, ◌∙◌, inl, inr, arith, length-set}
use Rattle.std.proofs.lemmas.List.{length-map, get_or-set_same, get_or-set_other, get_or_past}
use Rattle.std.proofs.lemmas.Bool.{cases_eq, cases_lt, false_from_ne_true}
use Rattle.sets.specs.Bits.{flip}
use Rattle.sets.specs.Lists.{Distinct}
use Rattle.sets.specs.Sets.{has, row, less, plus, empty, only, among}
use Rattle.sets.proofs.Bits.{flip_false, flip_comm}
use Rattle.sets.proofs.Sets.{ext, length_over, has_less, has_plus, only_self, only_other, length_only, odd_only, odd_empty}
use Rattle.meaning.specs.Meaning.{Meaning, qubits}
use Rattle.rules.specs.Reports.{syndrome}
use Rattle.rules.proofs.Core.{has_syndrome}
use Rattle.upkeep.specs.Changed.{turned}
use Rattle.upkeep.proofs.Changed.{length_changed, changed_at}

-- whether k is q: in the set of q alone, and after a write at q
pub at_only : (n q k : ℕ) → q < n → (k ≡ q) ⊎ (k ≡ q → ⊥) → (a : List Bool) (v : Bool) → length a ≡ n
    → ((has (only n q) k ≡ true) × (has (set a q v) k ≡ v) × (k ≡ q)) ⊎ ((has (only n q) k ≡ false) × (has (set a q v) k ≡ has a k))
at_only n q k low (inl e) a v long =
    let low' : q < length a = omega arith in
    inl (ap (has (only n q)) e ∙ only_self n q low, ap (has (set a q v)) e ∙ get_or-set_same a q v false low', e)
at_only n q k low (inr d) a v long = inr (false_from_ne_true (has (only n q) k) (λ h. d (only_other n q k h)), get_or-set_other a q k v false d)

module _ (n : ℕ) (a : List Bool) (long : length a ≡ n) (q : ℕ) (low : q < n) where
  pub less_only : less a (only n q) ≡ set a q false
  less_only =
      ext (less a (only n q)) (set a q false) (length_over (λ x y. x && not y) a (only n q) n long (length_only n q) ∙ sym (length-set a q false ∙ long))
      (λ k. has_less a (only n q) k ∙ go k (at_only n q k low (cases_eq k q) a false long))
    where
      no : (x : Bool) → (x && false) ≡ false
      no true = refl
      no false = refl

      yes : (x : Bool) → (x && true) ≡ x
      yes true = refl
      yes false = refl

      go : (k : ℕ) → ((has (only n q) k ≡ true) × (has (set a q false) k ≡ false) × (k ≡ q)) ⊎ ((has (only n q) k ≡ false) × (has (set a q false) k ≡ has a k)) → (has a k && not (has (only n q) k)) ≡ has (set a q false) k
      go k (inl h) = ap (λ t. has a k && not t) h.0 ∙ no (has a k) ∙ sym h.1
      go k (inr h) = ap (λ t. has a k && not t) h.0 ∙ yes (has a k) ∙ sym h.1

  pub plus_only : plus a (only n q) ≡ set a q (not (has a q))
  plus_only =
      ext (plus a (only n q)) (set a q (not (has a q))) (length_over flip a (only n q) n long (length_only n q) ∙ sym (length-set a q (not (has a q)) ∙ long))
      (λ k. has_plus a (only n q) k ∙ go k (at_only n q k low (cases_eq k q) a (not (has a q)) long))
    where
      go : (k : ℕ) → ((has (only n q) k ≡ true) × (has (set a q (not (has a q))) k ≡ not (has a q)) × (k ≡ q)) ⊎ ((has (only n q) k ≡ false) × (has (set a q (not (has a q))) k ≡ has a k)) → flip (has a k) (has (only n q) k) ≡ has (set a q (not (has a q))) k
      go k (inl h) = ap (flip (has a k)) h.0 ∙ flip_comm (has a k) true ∙ ap (λ i. not (has a i)) h.2 ∙ sym h.1
      go k (inr h) = ap (flip (has a k)) h.0 ∙ flip_false (has a k) ∙ sym h.1

-- nothing more
pub plus_nothing : (a b : List Bool) → length a ≡ length b → ((k : ℕ) → has b k ≡ false) → plus a b ≡ a
plus_nothing a b e none = ext (plus a b) a (length_over flip a b (length a) refl (sym e)) (λ k. has_plus a b k ∙ ap (flip (has a k)) (none k) ∙ flip_false (has a k))

module _ (M : Meaning) (odds : List Bool) (long : length odds ≡ length M.checks) where
  pub syndrome_none : plus odds (syndrome M (empty (qubits M))) ≡ odds
  syndrome_none = plus_nothing odds (syndrome M (empty (qubits M))) (long ∙ sym (length-map M.checks _)) (λ k. has_syndrome M (empty (qubits M)) k ∙ odd_empty (row M.checks k) (qubits M))

  -- the list l names each check that holds q, once
  pub syndrome_one : (q : ℕ) → q < qubits M → (l : List ℕ) → Distinct l → ((k : ℕ) → k < length M.checks → among k l ≡ has (row M.checks k) q) → turned l odds ≡ plus odds (syndrome M (only (qubits M) q))
  syndrome_one q low l once names =
      ext (turned l odds) (plus odds (syndrome M (only (qubits M) q))) (long_turned ∙ sym long_plus) (λ k. go k (cases_lt k (length odds)))
    where
      long_turned : length (turned l odds) ≡ length odds
      long_turned = length_changed false not l odds

      long_plus : length (plus odds (syndrome M (only (qubits M) q))) ≡ length odds
      long_plus = length_over flip odds (syndrome M (only (qubits M) q)) (length odds) refl (length-map M.checks _ ∙ sym long)

      turn : (t x : Bool) → cond t (not x) x ≡ flip x t
      turn true x = sym (flip_comm x true)
      turn false x = sym (flip_false x)

      go : (k : ℕ) → (k < length odds) ⊎ (length odds ≤ k) → has (turned l odds) k ≡ has (plus odds (syndrome M (only (qubits M) q))) k
      go k (inl h) =
          changed_at false not l odds once k h
          ∙ ap (λ t. cond t (not (has odds k)) (has odds k)) (names k (omega arith))
          ∙ turn (has (row M.checks k) q) (has odds k)
          ∙ ap (flip (has odds k)) (sym (has_syndrome M (only (qubits M) q) k ∙ odd_only (row M.checks k) (qubits M) q low))
          ∙ sym (has_plus odds (syndrome M (only (qubits M) q)) k)
      go k (inr h) = get_or_past (turned l odds) k false (omega (arith, long_turned)) ∙ sym (get_or_past (plus odds (syndrome M (only (qubits M) q))) k false (omega (arith, long_plus)))
