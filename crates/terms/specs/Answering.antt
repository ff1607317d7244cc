-- How a call that refuses by a rule answers.
use Rattle.std.specs.Prelude.{◌≡◌, Some, None, Ok, Err, Option, Result}
use Rattle.terms.specs.declared.refusal.Refusal.{Refusal}
use Rattle.terms.specs.declared.refusal.Refusal.TheVariants.{NoMemory}

-- the refusal that the rule names, and where it names none a value with the property P
abbrev pub Answers : {X : Type 0} → Result X Refusal → Option Refusal → (X → Type 0) → Type 0
Answers (Err e) (Some f) P = e ≡ f
Answers (Err e) None P = ⊥
Answers (Ok x) (Some f) P = ⊥
Answers (Ok x) None P = P x

-- the same of a call that takes memory: what the rule refuses is refused, and what it takes may still meet want of memory
abbrev pub AnswersIfMemory : {X : Type 0} → Result X Refusal → Option Refusal → (X → Type 0) → Type 0
AnswersIfMemory (Err e) (Some f) P = e ≡ f
AnswersIfMemory (Err e) None P = e ≡ NoMemory
AnswersIfMemory (Ok x) (Some f) P = ⊥
AnswersIfMemory (Ok x) None P = P x

-- what a look for faults answers: the refusal that the rule names, and where it names none nothing
abbrev pub checked : Option Refusal → Result Unit Refusal
checked (Some f) = Err f
checked None = Ok tt
