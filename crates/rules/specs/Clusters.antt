-- The cluster of a qubit, and its checks.
use Rattle.std.specs.Prelude.{◌≡◌, ℕ, zero, suc, Bool, true, false, cond, not, ◌&&◌, List, [], ◌∷◌, map, length, drop, ◌==◌}
use Rattle.sets.specs.Bits.{flip, alike}
use Rattle.sets.specs.Sets.{has, row, join, meet, less, only, any, holders}
use Rattle.meaning.specs.Meaning.{Meaning, qubits}
use Rattle.rules.specs.States.{State}
use Rattle.rules.specs.Systems.{solutions}

-- the erased qubits on the side of q, and on the other side
abbrev pub same_side : Meaning → State → ℕ → List Bool
same_side M s q = meet s.erased (map (alike (has M.sides q)) M.sides)

abbrev pub other_side : Meaning → State → ℕ → List Bool
other_side M s q = meet s.erased (map (flip (has M.sides q)) M.sides)

-- the open checks that hold one of the qubits k
abbrev pub touched : Meaning → State → List Bool → List Bool
touched M s k = less (holders M.checks k) s.closed

-- all qubits of the checks of a set
abbrev pub spanned : List (List Bool) → List Bool → List Bool
spanned [] among = []
spanned (c ∷ checks) among = join (cond (has among 0) c []) (spanned checks (drop 1 among))

abbrev pub again : {X : Type 0} → ℕ → (X → X) → X → X
again zero f x = x
again (suc n) f x = again n f (f x)

-- with k, each erased qubit of the side that an open check holds together with one of k
abbrev pub grown : Meaning → State → List Bool → List Bool → List Bool
grown M s side k = join k (meet side (spanned M.checks (touched M s k)))

-- the cluster of q: all that is reached by touching, q itself among it. As many steps as there are qubits reach it all
abbrev pub cluster : Meaning → State → ℕ → List Bool
cluster M s q = again (qubits M) (grown M s (same_side M s q)) (only (qubits M) q)

-- of the checks of the cluster k of q: those that also hold an erased qubit of the other side are connecting, the others internal
abbrev pub connecting : Meaning → State → ℕ → List Bool → List Bool
connecting M s q k = meet (touched M s k) (holders M.checks (other_side M s q))

abbrev pub internal : Meaning → State → ℕ → List Bool → List Bool
internal M s q k = less (touched M s k) (connecting M s q k)

-- whether there is a connecting check, a single one, that is free: some subset of the cluster is even on each internal check and
-- odd on it. If it is not free, it is frozen
abbrev pub free : Meaning → State → List Bool → List Bool → Bool
free M s k connects = any connects && not (length (solutions M.checks k (touched M s k) connects) == 0)

-- two erased qubits of one side touch if an open check holds both
pub record Touch (M : Meaning) (s : State) (i j : ℕ) : Type 0 where
  pub erased_i : has s.erased i ≡ true
  pub erased_j : has s.erased j ≡ true
  pub one_side : has M.sides i ≡ has M.sides j
  pub check : ℕ
  pub is_open : has s.closed check ≡ false
  pub holds_i : has (row M.checks check) i ≡ true
  pub holds_j : has (row M.checks check) j ≡ true

-- what is reached from q by touching
pub data Reached (M : Meaning) (s : State) (q : ℕ) : ℕ → Type 0 where
  itself : Reached M s q q
  onward : {i j : ℕ} → Reached M s q i → Touch M s i j → Reached M s q j
