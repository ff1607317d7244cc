-- Answers that keep to a rule of refusals.
use Rattle.std.proofs.Common.{◌≡◌, Bool, true, false, cond, Some, None, Ok, Err, Option, sym, refl, ap, arith}
use Rattle.terms.specs.declared.refusal.Refusal.{Refusal}
use Rattle.terms.specs.declared.refusal.Refusal.TheVariants.{NoMemory}
use Rattle.terms.specs.Answering.{Answers, AnswersIfMemory}

-- a rule that begins with a test and names no refusal: the test fails, and what follows it names none
pub test_fails : (b : Bool) (f : Refusal) (o : Option Refusal) → cond b (Some f) o ≡ None → (b ≡ false) × (o ≡ None)
test_fails true f o h = grind arith
test_fails false f o h = (refl, h)

module _ {X : Type 0} where
  pub answers_ok : (x : X) (o : Option Refusal) (P : X → Type 0) → o ≡ None → P x → Answers (Ok x) o P
  answers_ok x None P e h = h
  answers_ok x (Some f) P e h = grind arith

  pub answers_err : (f : Refusal) (o : Option Refusal) (P : X → Type 0) → o ≡ Some f → Answers (Err f) o P
  answers_err f None P e = grind arith
  answers_err f (Some g) P e = cc

  -- what an answer says of the rule
  pub answered_ok : (x : X) (o : Option Refusal) (P : X → Type 0) → Answers (Ok x) o P → (o ≡ None) × P x
  answered_ok x None P h = (refl, h)
  answered_ok x (Some f) P h = absurd h

  pub answered_err : (e : Refusal) (o : Option Refusal) (P : X → Type 0) → Answers (Err e) o P → o ≡ Some e
  answered_err e None P h = absurd h
  answered_err e (Some f) P h = ap (λ (x : Refusal). Some x) (sym h)

  pub memory_ok : (x : X) (o : Option Refusal) (P : X → Type 0) → o ≡ None → P x → AnswersIfMemory (Ok x) o P
  memory_ok x None P e h = h
  memory_ok x (Some f) P e h = grind arith

  pub memory_err : (f : Refusal) (o : Option Refusal) (P : X → Type 0) → o ≡ Some f → AnswersIfMemory (Err f) o P
  memory_err f None P e = grind arith
  memory_err f (Some g) P e = cc

  pub memory_none : (e : Refusal) (o : Option Refusal) (P : X → Type 0) → o ≡ None → e ≡ NoMemory → AnswersIfMemory (Err e) o P
  memory_none e None P p q = q
  memory_none e (Some f) P p q = grind arith
