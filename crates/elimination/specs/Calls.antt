-- What each call does, and what it answers, by the list of all solutions.
use Rattle.std.specs.Prelude.{◌≡◌, ℕ, ◌^◌, Bool, true, false, cond, ◌≢◌, List, [], ◌∷◌, length, Some, None, Ok, Err, Option, Result, nat_lt, slice_index_or, slice_set}
use Rattle.terms.specs.declared.refusal.Refusal.{Refusal}
use Rattle.terms.specs.declared.refusal.Refusal.TheVariants.{QubitTooLarge, TooManyUnknowns}
use Rattle.linear.specs.Field.{Field}
use Rattle.linear.specs.Basis.{dot}
use Rattle.linear.specs.System.{Row}
use Rattle.elimination.specs.Holds.{Zeros}

-- more than 256 unknowns are refused
abbrev pub too_many : ℕ → Option Refusal
too_many n = cond (nat_lt 256 n) (Some TooManyUnknowns) None

-- a place that is none of the n unknowns is refused
abbrev pub outside : ℕ → ℕ → Option Refusal
outside n place = cond (nat_lt place n) None (Some QubitTooLarge)

-- a refused call changes nothing
abbrev pub KeptIfRefused : {X E : Type 0} → Result X Refusal → E → E → Type 0
KeptIfRefused (Ok x) e e' = Unit {0}
KeptIfRefused (Err f) e e' = e' ≡ e

abbrev pub check : {F : Type 0} → List F → F → Row F
check written right = record { left = written; right = right }

-- false: there is no solution; true: x is the first
abbrev pub First : {F : Type 0} → Bool → List (List F) → List F → Type 0
First {F = F} false found x = found ≡ []
First {F = F} true found x = (others : List (List F)) × (found ≡ x ∷ others)

module _ {F : Type 0} (K : Field F) where
  open K use {zer, add, rest}

  -- one more coefficient at a place
  abbrev pub more : List F → ℕ → F → List F
  more written place c = slice_set written place (add (slice_index_or written place zer) c)

  -- no solution; or as many as the s-th power of the number of values
  abbrev pub Power : List (List F) → Option ℕ → Type 0
  Power found None = found ≡ []
  Power found (Some s) = length found ≡ length (zer ∷ rest) ^ s

  -- true: some vector is zero on every row's left side and not on the check; false: there is none
  abbrev pub Independent : ℕ → List (Row F) → List F → Bool → Type 0
  Independent n rows written true = (x : List F) × (length x ≡ n) × Zeros K rows x × (dot K written x ≢ zer)
  Independent n rows written false = (x : List F) → length x ≡ n → Zeros K rows x → dot K written x ≡ zer
