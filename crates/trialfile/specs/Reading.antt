-- What is read of a file from some place on: a value and what is left after it, or a fault.
use Rattle.std.specs.Prelude.{◌≡◌, ℕ, zero, suc, ◌⊎◌, List, [], ◌∷◌, Some, Ok, Err, Option, Result, if◌then◌else◌}
use Rattle.std.specs.Str.{bytes_eq}
use Rattle.tokens.specs.declared.fault.TokenFault.{TokenFault}
use Rattle.tokens.specs.declared.section.Section.{Section}
use Rattle.tokens.specs.declared.section.Section.TheVariants.{End}
use Rattle.tokens.specs.declared.section.Spot.{Spot}
use Rattle.tokens.specs.Tokens.{Rest, Said, word, number, end, word_of, next_token, after_token}
use Rattle.trialfile.specs.declared.fault.SectionFault.{SectionFault}
use Rattle.trialfile.specs.declared.fault.SectionFault.TheVariants.{Token, NotAwaited, EndsEarly, GoesOn, NoMemory}
use Rattle.trialfile.specs.declared.reading.Numeral.{Numeral}

abbrev pub Reading : Type 0 → Type 0
Reading X = Rest → Result (X × Rest) SectionFault

-- nothing is read: the value is known, or the fault
abbrev pub gives : {X : Type 0} → X → Reading X
gives x r = Ok (x, r)

abbrev pub fails : {X : Type 0} → SectionFault → Reading X
fails e r = Err e

-- one is read, and then another, which may depend on what the first gave
abbrev pub go_on : {X Y : Type 0} → Result (X × Rest) SectionFault → (X → Reading Y) → Result (Y × Rest) SectionFault
go_on (Ok p) f = f p.0 p.1
go_on (Err e) f = Err e

abbrev pub and_then : {X Y : Type 0} → Reading X → (X → Reading Y) → Reading Y
and_then first f r = go_on (first r) f

-- n values, each read after the one before it, where there is one
abbrev pub each : {X : Type 0} → ℕ → (Option X → Reading X) → Option X → Reading (List X)
each zero f last = gives []
each (suc n) f last = and_then (f last) (λ x. and_then (each n f (Some x)) (λ l. gives (x ∷ l)))

-- a token, where a is awaited, and its spot
abbrev pub of_token : Result (Said × Spot) TokenFault → Rest → Result ((Said × Spot) × Rest) SectionFault
of_token (Ok t) r = Ok (t, r)
of_token (Err e) r = Err (Token e)

abbrev pub token : Section → Reading (Said × Spot)
token a r = of_token (next_token a r) (after_token r)

-- the word of the section a
abbrev pub as_word : Section → Said × Spot → Reading (Unit {0})
as_word a (word w, s) = if bytes_eq w (word_of a) then gives tt else fails (NotAwaited s)
as_word a (number n, s) = fails (NotAwaited s)
as_word a (end, s) = fails (EndsEarly s)

abbrev pub word_in : Section → Reading (Unit {0})
word_in a = and_then (token a) (as_word a)

-- a number of the section a
abbrev pub as_number : Said × Spot → Reading Numeral
as_number (word w, s) = fails (NotAwaited s)
as_number (number n, s) = gives (record { value = n; spot = s })
as_number (end, s) = fails (EndsEarly s)

abbrev pub number_in : Section → Reading Numeral
number_in a = and_then (token a) as_number

-- the end of the file
abbrev pub as_end : Said × Spot → Reading (Unit {0})
as_end (word w, s) = fails (GoesOn s)
as_end (number n, s) = fails (GoesOn s)
as_end (end, s) = gives tt

abbrev pub end_of_file : Reading (Unit {0})
end_of_file = and_then (token End) as_end

-- what a call of the program answers, beside what it leaves
abbrev pub answered : {X : Type 0} → Result X SectionFault → Rest → Result (X × Rest) SectionFault
answered (Ok x) r = Ok (x, r)
answered (Err e) r = Err e

-- the call's answer is what is read; or memory was wanting
abbrev pub AnswersUnlessMemory : {X Y : Type 0} → (X → Y) → Result X SectionFault → Rest → Result (Y × Rest) SectionFault → Type 0
AnswersUnlessMemory view (Ok x) r told = Ok (view x, r) ≡ told
AnswersUnlessMemory view (Err e) r told = (e ≡ NoMemory) ⊎ (Err e ≡ told)
