-- A look for faults, as it answered.
use Rattle.std.proofs.Common.{◌≡◌, Some, None, Ok, Err, Option, refl, arith}
use Rattle.terms.specs.declared.refusal.Refusal.{Refusal}
use Rattle.terms.specs.Answering.{checked}

pub passes : (o : Option Refusal) (u : Unit {0}) → Ok u ≡ checked o → None ≡ o
passes None u e = refl
passes (Some f) u e = grind arith

pub stops : (f : Refusal) (o : Option Refusal) → Err f ≡ checked o → Some f ≡ o
stops f None e = grind arith
stops f (Some g) e = cc
