-- Where what can be done is looked for.
use Rattle.std.specs.Prelude.{◌≡◌, ℕ, ◌-◌, ◌<◌, min, cond, Bool, false, List, Some, None}
use Rattle.std.specs.declared.option.Option as optional
use Rattle.std.proofs.Math.Option.{Option, none, some}
use Rattle.std.specs.List.{range_with_len}
use Rattle.sets.specs.Sets.{any, lowest}

-- the numbers from k on that are below n
abbrev pub numbers_from : ℕ → ℕ → List ℕ
numbers_from k n = range_with_len k (n - k)

-- the lowest number in the set, if there is one
abbrev pub lowest_in : List Bool → optional.Option ℕ
lowest_in m = cond (any m) (Some (lowest m)) None

-- no number below k passes
abbrev pub NoneBelow : (ℕ → Bool) → ℕ → Type 0
NoneBelow p k = (j : ℕ) → j < k → p j ≡ false

-- k, or the number found where that is lower
abbrev pub back_to : ℕ → optional.Option ℕ → ℕ
back_to k None = k
back_to k (Some d) = min d k

-- the number found, as the rules have it
abbrev pub in_rules : optional.Option ℕ → Option ℕ
in_rules None = none
in_rules (Some k) = some k
