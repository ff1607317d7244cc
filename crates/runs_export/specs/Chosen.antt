-- What a number says of a decode on the product code of a seed.
use Rattle.std.specs.Prelude.{◌≡◌, ℕ, zero, suc, ◌⊎◌, List, replicate, Some, None, Option, Ok, Err, Result}
use Rattle.terms.specs.declared.refusal.Refusal.{Refusal}
use Rattle.terms.specs.declared.refusal.Refusal.TheVariants.{NoMemory}
use Rattle.meaning.specs.Meaning.{Meaning, qubits}
use Rattle.meaning.specs.Product.{product_code}
use Rattle.product.specs.declared.place.Place.{Place}
use Rattle.product.specs.declared.seed.Seed.{Seed}
use Rattle.product.specs.Seed.{seed_fault, seed_of}
use Rattle.rules.specs.declared.answers.Verdict.{Verdict}
use Rattle.rules.specs.Tallies.{new_tally}
use Rattle.decoding.specs.Running.{decoded}

-- the verdict of a report on a code, on a new tally and into bytes of zero
abbrev pub verdict_on : Meaning → List ℕ → List ℕ → ℕ → Result Verdict Refusal
verdict_on M lost odds switches = (decoded M new_tally lost odds switches (replicate (qubits M) 0)).0

-- the same on the product code of a seed, where the seed is not refused
abbrev pub verdict_if : Option Refusal → Meaning → List ℕ → List ℕ → ℕ → Result Verdict Refusal
verdict_if (Some f) M lost odds switches = Err f
verdict_if None M lost odds switches = verdict_on M lost odds switches

abbrev pub verdict_of : ℕ → ℕ → List Place → List ℕ → List ℕ → ℕ → Result Verdict Refusal
verdict_of r n ones lost odds switches = verdict_if (seed_fault r n ones) (product_code r n (seed_of r n ones)) lost odds switches

-- the answer is that verdict or refusal; or memory was wanting
abbrev pub DecodesIfMade : Seed → List ℕ → List ℕ → ℕ → Result Verdict Refusal → Type 0
DecodesIfMade s lost odds switches a = (a ≡ Err NoMemory) ⊎ (a ≡ verdict_of s.rows s.columns s.ones.now lost odds switches)

-- a number other than 0 is what the verdict chose
abbrev pub Chose : Result Verdict Refusal → ℕ → Type 0
Chose told zero = Unit {0}
Chose told (suc k) = (v : Verdict) × (told ≡ Ok v) × (v.chosen ≡ suc k)

abbrev pub Tells : ℕ → ℕ → List Place → List ℕ → List ℕ → ℕ → ℕ → Type 0
Tells r n ones lost odds switches k = Chose (verdict_of r n ones lost odds switches) k
