-- What a caller reads off a system: which qubits a solution has, and whether a cluster's connecting check is free.
use Rattle.std.proofs.Common.{◌≡◌, ℕ, ◌<◌, Bool, true, false, not, ◌&&◌, eqb, List, length, set, sym, ◌∙◌, ap₂, lt-ltb}
use Rattle.sets.specs.Sets.{has, only}
use Rattle.sets.proofs.Sets.{has_any, only_self}
use Rattle.meaning.specs.Meaning.{Meaning}
use Rattle.rules.specs.States.{State}
use Rattle.rules.specs.Systems.{solutions}
use Rattle.rules.specs.Clusters.{touched, free}
use Rattle.systems.specs.Told.{further, free_beside}

-- a single connecting check beside the internal ones is free by the rules if it is free beside these
pub free_by_rules : (M : Meaning) (s : State) (k internals : List Bool) (c : ℕ) → touched M s k ≡ set internals c true → c < length M.checks → free_beside M k internals c ≡ free M s k (only (length M.checks) c)
free_by_rules M s k internals c e low =
    ap₂ (λ a t. a && not (eqb (length (solutions M.checks k t (only (length M.checks) c))) 0)) (sym (has_any (only (length M.checks) c) c (only_self (length M.checks) c low))) (sym e)

-- of a further check it is answered whether it is free
pub further_free : (M : Meaning) (k among : List Bool) (c : ℕ) (r : Bool) → r ≡ (further M among c && free_beside M k among c) → has among c ≡ false → c < length M.checks → r ≡ free_beside M k among c
further_free M k among c r e other low = e ∙ ap₂ (λ x y. (x && not y) && free_beside M k among c) (lt-ltb c (length M.checks) low) other
