-- Scratch bytes that have no fault.
use Rattle.std.proofs.Common.{◌≡◌, ℕ, zero, suc, ◌≤◌, ◌<◌, false, not, eqb, ltb, List, [], ◌∷◌, length, get_or, take, Some, None, Ok, Option, refl, ap, arith, ltb-true, ltb-false, eqb-true}
use Rattle.std.proofs.lemmas.Bool.{false_from_ne_true, and_parts, or_parts, not-false}
use Rattle.terms.proofs.Answering.{test_fails}
use Rattle.terms.specs.Answering.{checked}
use Rattle.terms.specs.declared.refusal.Refusal.{Refusal}
use Rattle.terms.specs.declared.refusal.Refusal.TheVariants.{BufferTooShort, ScratchNotZero}
use Rattle.meaning.specs.Meaning.{Meaning, qubits}
use Rattle.rules.specs.Refusing.{some_nonzero, too_short, in_use}
use Rattle.marks.specs.Marks.{scratch_fault, is_marked}
use Rattle.sets.proofs.Bits.{clash}

-- a look for faults that found none
pub no_fault : (u : Unit {0}) (o : Option Refusal) → Ok u ≡ checked o → o ≡ None
no_fault u None e = refl
no_fault u (Some f) e = grind arith

-- no bar of a scratch buffer holds
pub lent_clear : (M : Meaning) (bytes : List ℕ) → scratch_fault (qubits M) bytes ≡ None → ((too_short M bytes).holds ≡ false) × ((in_use M bytes).holds ≡ false)
lent_clear M bytes h =
    let a = test_fails (ltb (length bytes) (qubits M)) BufferTooShort _ h in
    (a.0, (test_fails (some_nonzero (take (qubits M) bytes)) ScratchNotZero None a.1).0)

pub long_enough : (n : ℕ) (bytes : List ℕ) → scratch_fault n bytes ≡ None → n ≤ length bytes
long_enough n bytes h = ltb-false (length bytes) n (test_fails (ltb (length bytes) n) BufferTooShort _ h).0

zero_at : (n : ℕ) (l : List ℕ) (k : ℕ) → some_nonzero (take n l) ≡ false → k < n → get_or l k 0 ≡ 0
zero_at zero l k e h = absurd (omega arith)
zero_at (suc n) [] k e h = refl
zero_at (suc n) (x ∷ l) zero e h = eqb-true x 0 (not-false (eqb x 0) (or_parts (not (eqb x 0)) (some_nonzero (take n l)) e).0)
zero_at (suc n) (x ∷ l) (suc k) e h = let h' : k < n = omega arith in zero_at n l k (or_parts (not (eqb x 0)) (some_nonzero (take n l)) e).1 h'

pub none_marked : (n : ℕ) (bytes : List ℕ) → scratch_fault n bytes ≡ None → (k : ℕ) → is_marked n bytes k ≡ false
none_marked n bytes h k =
    let clean : some_nonzero (take n bytes) ≡ false = (test_fails (some_nonzero (take n bytes)) ScratchNotZero None (test_fails (ltb (length bytes) n) BufferTooShort _ h).1).0 in
    false_from_ne_true (is_marked n bytes k)
    (λ e.
    let p = and_parts (ltb k n) (not (eqb (get_or bytes k 0) 0)) e in
    clash p.1 (ap (λ v. not (eqb v 0)) (zero_at n bytes k clean (ltb-true k n p.0))))
