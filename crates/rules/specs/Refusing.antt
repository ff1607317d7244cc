-- How calls are refused.
use Rattle.std.specs.Prelude.{ℕ, Bool, false, cond, not, ◌||◌, List, [], ◌∷◌, length, take, Err, Result, ◌==◌, nat_lt}
use Rattle.terms.specs.declared.refusal.Refusal.{Refusal}
use Rattle.terms.specs.declared.refusal.Refusal.TheVariants.{BufferTooShort, ScratchNotZero, NoSolution, WrongSlip}
use Rattle.meaning.specs.Meaning.{Meaning, qubits}
use Rattle.rules.specs.States.{State}

-- a bar: a test that has to fail, and what is answered otherwise
pub record Bar : Type 0 where
  pub holds : Bool
  pub says : Refusal

abbrev pub bar : Bool → Refusal → Bar
bar holds says = record { holds = holds; says = says }

-- a call is refused by the first of its bars that holds, and changes nothing then
abbrev pub unless : {A S : Type 0} → List Bar → S → Result A Refusal × S → Result A Refusal × S
unless [] before after = after
unless (b ∷ bars) before after = cond b.holds (Err b.says, before) (unless bars before after)

-- bars that several calls have: the trial is void; the slip's number is not the trial's
abbrev pub is_void : State → Bar
is_void s = bar s.void NoSolution

abbrev pub wrong_slip : State → ℕ → Bar
wrong_slip s slip = bar (not (slip == s.number)) WrongSlip

-- a buffer has to have a byte for each qubit; of a scratch buffer, these have to be zero
abbrev pub too_short : Meaning → List ℕ → Bar
too_short M buffer = bar (nat_lt (length buffer) (qubits M)) BufferTooShort

abbrev pub some_nonzero : List ℕ → Bool
some_nonzero [] = false
some_nonzero (b ∷ l) = not (b == 0) || some_nonzero l

abbrev pub in_use : Meaning → List ℕ → Bar
in_use M scratch = bar (some_nonzero (take (qubits M) scratch)) ScratchNotZero
