-- Rows and sides.
use Rattle.std.specs.Prelude.{ℕ, zero, suc, Bool, true, false, Ok, Err, Result}
use Rattle.terms.specs.declared.refusal.Refusal.{Refusal}
use Rattle.terms.specs.declared.refusal.Refusal.TheVariants.{OutsideLimits}
use Rattle.terms.specs.declared.row.Row.{Row}
use Rattle.terms.specs.declared.row.Row.TheVariants.{Check, Generator}
use Rattle.terms.specs.declared.row.Side.{Side}
use Rattle.terms.specs.declared.row.Side.TheVariants.{Zero, One}

-- the row of the other kind with the same number
abbrev pub exchanged : Row → Row
exchanged (Check k) = Generator k
exchanged (Generator k) = Check k

-- a side as a truth value: true for side 1
abbrev pub side_of : Bool → Side
side_of true = One
side_of false = Zero

-- the number of a side
abbrev pub side_number : Side → ℕ
side_number Zero = 0
side_number One = 1

-- the side of a number, and a refusal for a number that is none of a side
abbrev pub side_numbered : ℕ → Result Side Refusal
side_numbered zero = Ok Zero
side_numbered (suc zero) = Ok One
side_numbered (suc (suc n)) = Err OutsideLimits
