-- A turn of a run.
use Rattle.std.specs.Prelude.{Bool, true, false}
use Rattle.std.proofs.Math.Option.{Option, none, some}
use Rattle.meaning.specs.Meaning.{Meaning}
use Rattle.rules.specs.States.{State}
use Rattle.rules.specs.CallLists.{Call, call}

-- the call that was found is made; whether there was one, and the trial after it
abbrev pub taken : Meaning → State → Option Call → Bool × State
taken M s none = (false, s)
taken M s (some c) = (true, call M s c)
