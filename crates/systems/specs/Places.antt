-- Where each qubit stands among the unknowns.
use Rattle.std.specs.Prelude.{◌≡◌, ℕ, ◌<◌, false, None, Option, List, length, slice_index, slice_index_or}
use Rattle.std.specs.Option.{ForSome, ForNone}
use Rattle.sets.specs.Sets.{among}

-- a list of places, one a qubit, has for each qubit the place where it stands in l, if it stands there
abbrev pub Placed : List (Option ℕ) → List ℕ → Type 0
Placed places l = (q : ℕ) → q < length places → ForNone (slice_index_or places q None) (among q l ≡ false) × ForSome (slice_index_or places q None) (λ t. (t < length l) × (slice_index l t ≡ q))
