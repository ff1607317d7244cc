-- The first bar that holds.
use Rattle.std.specs.Prelude.{cond, List, [], ◌∷◌, Some, None, Option}
use Rattle.terms.specs.declared.refusal.Refusal.{Refusal}
use Rattle.rules.specs.Refusing.{Bar}

-- why a call is refused, if it is
abbrev pub fault : List Bar → Option Refusal
fault [] = None
fault (b ∷ bars) = cond b.holds (Some b.says) (fault bars)
