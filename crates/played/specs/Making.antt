-- How a call answers that takes memory before it refuses by a rule.
use Rattle.std.specs.Prelude.{◌≡◌, ◌⊎◌, Err, Option, Result}
use Rattle.terms.specs.declared.refusal.Refusal.{Refusal}
use Rattle.terms.specs.declared.refusal.Refusal.TheVariants.{NoMemory}
use Rattle.terms.specs.Answering.{Answers}

-- memory was wanting, or the call answers by the rule
abbrev pub AnswersUnlessMemory : {X : Type 0} → Result X Refusal → Option Refusal → (X → Type 0) → Type 0
AnswersUnlessMemory r fault P = (r ≡ Err NoMemory) ⊎ Answers r fault P
