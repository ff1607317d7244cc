-- The one erased qubit of a dangling check.
use Rattle.std.proofs.Common.{◌≡◌, ℕ, ◌<◌, true, cond, ◌&&◌, length, Ok, Result, sym, ap, ◌∙◌, arith}
use Rattle.std.proofs.lemmas.Bool.{and_from}
use Rattle.terms.specs.declared.refusal.Refusal.{Refusal}
use Rattle.sets.specs.Sets.{has, row, only, empty, size, lowest}
use Rattle.sets.proofs.Bits.{same}
use Rattle.sets.proofs.Sets.{ext, row_of, length_over, length_only, has_meet, has_any, has_below, only_self, only_other}
use Rattle.sets.proofs.Sizes.{one_only, lowest_has}
use Rattle.meaning.specs.Meaning.{Meaning, Sound, qubits}
use Rattle.rules.specs.States.{State, finish, count}
use Rattle.rules.specs.Calls.{held}

module _ (M : Meaning) (sound : Sound M) (s : State) (long : length s.erased ≡ qubits M) (c : ℕ) (check : c < length M.checks) (one : size (held M s c) ≡ 1) (q : ℕ) (inside : has (row M.checks c) q ≡ true) (lost : has s.erased q ≡ true) where
  here : has (held M s c) q ≡ true
  here = has_meet (row M.checks c) s.erased q ∙ and_from _ _ inside lost

  low : q < qubits M
  low = omega (arith, has_below s.erased q lost)

  held_only : held M s c ≡ only (qubits M) q
  held_only =
      ext (held M s c) (only (qubits M) q) (length_over ◌&&◌ (row M.checks c) s.erased (qubits M) (sound.checks_range (row M.checks c) (row_of M.checks c check)) long ∙ sym (length_only (qubits M) q))
      (λ k. same (has (held M s c) k) (has (only (qubits M) q) k)
      (λ h. ap (has (only (qubits M) q)) (one_only (held M s c) (omega arith) k q h here) ∙ only_self (qubits M) q low)
      (λ h. ap (has (held M s c)) (only_other (qubits M) q k h) ∙ here))

  held_lowest : lowest (held M s c) ≡ q
  held_lowest = one_only (held M s c) (omega arith) (lowest (held M s c)) q (lowest_has (held M s c) (has_any (held M s c) q here)) here

  -- what a peel answers and leaves, by its one qubit
  pub peel_one : ◌≡◌ {A = Result ℕ Refusal × State} (Ok q, count 1 0 0 (finish M (only (qubits M) q) (cond (has s.odds c) (only (qubits M) q) (empty (qubits M))) s))
      (Ok (lowest (held M s c)), count 1 0 0 (finish M (held M s c) (cond (has s.odds c) (held M s c) (empty (qubits M))) s))
  peel_one =
      let a = sym held_lowest in
      let b = sym held_only in
      λ i. (Ok (a i), count 1 0 0 (finish M (b i) (cond (has s.odds c) (b i) (empty (qubits M))) s))
