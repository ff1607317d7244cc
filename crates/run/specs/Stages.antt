-- The stages of a run.
use Rattle.std.specs.Prelude.{ℕ, Bool, true, false, cond, Ok, Err, Result, nat_lt}
use Rattle.terms.specs.declared.refusal.Refusal.{Refusal}
use Rattle.terms.specs.declared.refusal.Refusal.TheVariants.{OutsideLimits, NothingErased, TooManyUnknowns}
use Rattle.run.specs.declared.switches.Switches.{Switches}

-- the switches that a sum names, from 0 to 15
abbrev pub switches_of : ℕ → Result Switches Refusal
switches_of w = cond (nat_lt 15 w) (Err OutsideLimits) (Ok (record { sum = w }))

-- a sweep found nothing erased, or too much
abbrev pub is_idle : Result (Unit {0}) Refusal → Bool
is_idle (Err NothingErased) = true
is_idle (Err TooManyUnknowns) = true
is_idle _ = false
