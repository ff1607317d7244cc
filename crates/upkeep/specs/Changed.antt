-- Changes at listed places.
use Rattle.std.specs.Prelude.{ℕ, ◌+◌, ◌-◌, min, Bool, true, false, not, List, [], ◌∷◌, slice_index_or, slice_set}

-- each listed place, one after another, changed by f; places past the end change nothing
abbrev pub changed : {X : Type 0} → X → (X → X) → List ℕ → List X → List X
changed d f [] xs = xs
changed d f (k ∷ l) xs = changed d f l (slice_set xs k (f (slice_index_or xs k d)))

-- marks turned over, marks set and marks taken back
abbrev pub turned : List ℕ → List Bool → List Bool
turned = changed false not

abbrev pub marked : List ℕ → List Bool → List Bool
marked = changed false (λ _. true)

abbrev pub unmarked : List ℕ → List Bool → List Bool
unmarked = changed false (λ _. false)

-- counts one lower, and one higher; a count stays within 0 and 65535
abbrev pub lowered : List ℕ → List ℕ → List ℕ
lowered = changed 0 (λ n. n - 1)

abbrev pub raised : List ℕ → List ℕ → List ℕ
raised = changed 0 (λ n. min (n + 1) 65535)
