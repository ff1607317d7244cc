-- What a number says of the product code of a seed.
use Rattle.std.specs.Prelude.{◌≡◌, ℕ, zero, suc, List, Some, None, Option}
use Rattle.terms.specs.declared.refusal.Refusal.{Refusal}
use Rattle.meaning.specs.Meaning.{qubits}
use Rattle.meaning.specs.Product.{product_code}
use Rattle.product.specs.declared.place.Place.{Place}
use Rattle.product.specs.Seed.{seed_fault, seed_of}

-- how many there are, or 0 for want of memory
abbrev pub Counts : ℕ → ℕ → Type 0
Counts n zero = Unit {0}
Counts n (suc k) = suc k ≡ n

-- the same of a seed that is not refused, and 0 of one that is
abbrev pub CountsIfMade : Option Refusal → ℕ → ℕ → Type 0
CountsIfMade (Some f) n k = k ≡ 0
CountsIfMade None n k = Counts n k

abbrev pub Tells : ℕ → ℕ → List Place → ℕ → Type 0
Tells r n ones k = CountsIfMade (seed_fault r n ones) (qubits (product_code r n (seed_of r n ones))) k
