-- Marks written into bytes.
use Rattle.std.specs.Prelude.{ℕ, Bool, cond, List, ◌++◌, map, length, drop, Ok, Err, Result, nat_lt}
use Rattle.terms.specs.declared.refusal.Refusal.{Refusal}
use Rattle.terms.specs.declared.refusal.Refusal.TheVariants.{BufferTooShort}
use Rattle.rules.specs.Tallies.{byte}

-- what is answered, and what the bytes are then: a byte for each mark and the others as they were, or, where there are too few, all as they were
abbrev pub written : List Bool → List ℕ → Result (Unit {0}) Refusal × List ℕ
written marks bytes = cond (nat_lt (length bytes) (length marks)) (Err BufferTooShort, bytes) (Ok tt, map byte marks ++ drop (length marks) bytes)
