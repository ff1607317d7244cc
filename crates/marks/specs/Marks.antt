-- Scratch bytes: the first n of them, one a qubit, serve as marks; a byte that is not zero is a mark.
use Rattle.std.specs.Prelude.{◌≡◌, ℕ, min, Bool, cond, not, ◌&&◌, List, ◌++◌, length, take, drop, replicate, Some, None, Option, ◌==◌, nat_lt, slice_index, slice_set}
use Rattle.terms.specs.declared.refusal.Refusal.{Refusal}
use Rattle.terms.specs.declared.refusal.Refusal.TheVariants.{BufferTooShort, ScratchNotZero}
use Rattle.rules.specs.Refusing.{some_nonzero}

-- why scratch bytes for n qubits are refused, if they are: too few, or one of the first n is not zero
abbrev pub scratch_fault : ℕ → List ℕ → Option Refusal
scratch_fault n bytes = cond (nat_lt (length bytes) n) (Some BufferTooShort) (cond (some_nonzero (take n bytes)) (Some ScratchNotZero) None)

-- the byte k is one of the first n, and a mark
abbrev pub is_marked : ℕ → List ℕ → ℕ → Bool
is_marked n bytes k = nat_lt k n && not (slice_index bytes k == 0)

-- with a mark at k, if that is one of the first n
abbrev pub with_mark : ℕ → List ℕ → ℕ → List ℕ
with_mark n bytes k = cond (nat_lt k n) (slice_set bytes k 1) bytes

-- with the first n bytes zero, and the others as they were
abbrev pub cleared : ℕ → List ℕ → List ℕ
cleared n bytes = replicate (min n (length bytes)) 0 ++ drop n bytes

-- scratch bytes that had no fault, marked among the first n and then cleared, are as they were
abbrev pub Restores : Type 0
Restores = (n : ℕ) (before marked : List ℕ) → scratch_fault n before ≡ None → length marked ≡ length before → drop n marked ≡ drop n before → cleared n marked ≡ before
