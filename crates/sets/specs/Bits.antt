-- Truth values as the bits 0 and 1.
use Rattle.std.specs.Prelude.{Bool, true, false, not}

-- the sum of two bits: true if exactly one of them is
abbrev pub flip : Bool → Bool → Bool
flip true b = not b
flip false b = b

-- whether two bits are equal
abbrev pub alike : Bool → Bool → Bool
alike true b = b
alike false b = not b
