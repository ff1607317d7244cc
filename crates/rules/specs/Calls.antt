-- What the calls peel, prune, solve, sweep and settle do: the answer, and the trial after it. `slip` is the number of the slip that is shown.
use Rattle.std.specs.Prelude.{ℕ, Bool, false, cond, not, ◌&&◌, ◌||◌, List, [], ◌∷◌, length, Ok, Err, Result, ◌==◌, nat_lt}
use Rattle.terms.specs.declared.refusal.Refusal.{Refusal}
use Rattle.terms.specs.declared.refusal.Refusal.TheVariants.{QubitTooLarge, CheckTooLarge, GeneratorTooLarge, PruneListLength, NotDangling, NothingErased, GeneratorNotErased, EvenlyNamed, SeveralConnecting, TooManyUnknowns, NoSolution, StillErased, ShelfEmpty}
use Rattle.sets.specs.Sets.{has, row, meet, empty, only, any, size, lowest, within}
use Rattle.meaning.specs.Meaning.{Meaning, qubits}
use Rattle.rules.specs.declared.answers.Cluster.{Cluster}
use Rattle.rules.specs.declared.answers.Cluster.TheVariants.{Shelved, Flipped}
use Rattle.rules.specs.Reports.{some_past, product}
use Rattle.rules.specs.Systems.{solutions, slack}
use Rattle.rules.specs.States.{Entry, State, finish, count, voided, shelve, reopen}
use Rattle.rules.specs.Clusters.{touched, cluster, connecting, internal, free}
use Rattle.rules.specs.Refusing.{Bar, bar, unless, is_void, wrong_slip, too_short, in_use}

-- Peel the check c. The erased qubits that it holds: it is dangling if it is open and they are exactly one
abbrev pub held : Meaning → State → ℕ → List Bool
held M s c = meet (row M.checks c) s.erased

abbrev pub dangling : Meaning → State → ℕ → Bool
dangling M s c = not (has s.closed c) && size (held M s c) == 1

abbrev pub peel_bars : Meaning → State → ℕ → ℕ → List Bar
peel_bars M s slip c = bar (not (nat_lt c (length M.checks))) CheckTooLarge ∷ is_void s ∷ bar (not (dangling M s c)) NotDangling ∷ wrong_slip s slip ∷ []

-- an odd check flips its qubit, which is done; the answer is the qubit
abbrev pub peel : Meaning → State → ℕ → ℕ → Result ℕ Refusal × State
peel M s slip c =
    unless (peel_bars M s slip c) s
    (Ok (lowest (held M s c)), count 1 0 0 (finish M (held M s c) (cond (has s.odds c) (held M s c) (empty (qubits M))) s))

-- Prune the qubit q with the list l of generators: whether some entry has a qubit that is not erased
abbrev pub some_outside : List (List Bool) → List Bool → List ℕ → Bool
some_outside sets b [] = false
some_outside sets b (g ∷ l) = not (within (row sets g) b) || some_outside sets b l

abbrev pub prune_bars : Meaning → State → ℕ → ℕ → List ℕ → List Bar
prune_bars M s slip q l =
    bar (not (nat_lt q (qubits M))) QubitTooLarge
    ∷ bar (some_past (length M.generators) l) GeneratorTooLarge
    ∷ bar (length l == 0 || nat_lt 4 (length l)) PruneListLength
    ∷ is_void s
    ∷ bar (some_outside M.generators s.erased l) GeneratorNotErased
    ∷ bar (not (has (product M l) q)) EvenlyNamed
    ∷ wrong_slip s slip
    ∷ []

-- the qubit is done, unflipped
abbrev pub prune : Meaning → State → ℕ → ℕ → List ℕ → Result (Unit {0}) Refusal × State
prune M s slip q l = unless (prune_bars M s slip q l) s (Ok tt, count 0 1 0 (finish M (only (qubits M) q) (empty (qubits M)) s))

-- of the solutions found, z is flipped, chosen grows by the slack, and the qubits k are done
abbrev pub choose : Meaning → List Bool → List Bool → List (List Bool) → State → State
choose M k z found s = count 0 0 (slack found) (finish M k z s)

-- Solve at the qubit q: k is its cluster
abbrev pub solve_bars : Meaning → State → ℕ → List ℕ → List Bool → List Bool → List Bar
solve_bars M s q scratch k connects =
    bar (not (nat_lt q (qubits M))) QubitTooLarge
    ∷ too_short M scratch
    ∷ in_use M scratch
    ∷ is_void s
    ∷ bar (not (has s.erased q)) NothingErased
    ∷ bar (nat_lt 1 (size connects)) SeveralConnecting
    ∷ bar (nat_lt 256 (size k)) TooManyUnknowns
    ∷ []

-- Without a solution the trial is void, whatever the slip. With one, first the slip is looked at; then a cluster with a free check is
-- shelved with it, and of any other the least solution is flipped
abbrev pub solve_found : Meaning → State → ℕ → List Bool → List Bool → Bool → List (List Bool) → Result Cluster Refusal × State
solve_found M s slip k connects isFree [] = (Err NoSolution, voided s)
solve_found M s slip k connects isFree (z ∷ found) =
    unless (wrong_slip s slip ∷ []) s (cond isFree (Ok Shelved, shelve k (lowest connects) s) (Ok Flipped, choose M k z (z ∷ found) s))

abbrev pub solve_trial : Meaning → State → ℕ → ℕ → List ℕ → Result Cluster Refusal × State
solve_trial M s slip q scratch =
    let k : List Bool = cluster M s q in
    let connects : List Bool = connecting M s q k in
    unless (solve_bars M s q scratch k connects) s
    (solve_found M s slip k connects (free M s k connects) (solutions M.checks k (internal M s q k) s.odds))

-- the scratch bytes are afterwards as they were before
abbrev pub solve : Meaning → State → ℕ → ℕ → List ℕ → Result Cluster Refusal × State × List ℕ
solve M s slip q scratch = let r : Result Cluster Refusal × State = solve_trial M s slip q scratch in (r.0, r.1, scratch)

-- Sweep: the same flipping for all erased qubits and every open check that holds one
abbrev pub sweep_bars : State → List Bar
sweep_bars s = is_void s ∷ bar (not (any s.erased)) NothingErased ∷ bar (nat_lt 256 (size s.erased)) TooManyUnknowns ∷ []

abbrev pub sweep_found : Meaning → State → ℕ → List (List Bool) → Result (Unit {0}) Refusal × State
sweep_found M s slip [] = (Err NoSolution, voided s)
sweep_found M s slip (z ∷ found) = unless (wrong_slip s slip ∷ []) s (Ok tt, choose M s.erased z (z ∷ found) s)

abbrev pub sweep : Meaning → State → ℕ → Result (Unit {0}) Refusal × State
sweep M s slip = unless (sweep_bars s) s (sweep_found M s slip (solutions M.checks s.erased (touched M s s.erased) s.odds))

-- Settle: the newest entry's check is opened, and the same is done for its qubits and the open checks that hold one
abbrev pub settle_bars : State → ℕ → List Bar
settle_bars s slip = is_void s ∷ bar (any s.erased) StillErased ∷ bar (length s.shelf == 0) ShelfEmpty ∷ wrong_slip s slip ∷ []

-- (that there is no solution does not come up: the law's companions say so)
abbrev pub settle_found : Meaning → State → State → List Bool → List (List Bool) → Result (Unit {0}) Refusal × State
settle_found M before s k [] = (Err NoSolution, before)
settle_found M before s k (z ∷ found) = (Ok tt, choose M k z (z ∷ found) s)

abbrev pub settle_newest : Meaning → State → List Entry → Result (Unit {0}) Refusal × State
settle_newest M s [] = (Err ShelfEmpty, s)
settle_newest M s (e ∷ l) =
    let t : State = reopen e.check l s in
    settle_found M s t e.members (solutions M.checks e.members (touched M t e.members) s.odds)

abbrev pub settle : Meaning → State → ℕ → Result (Unit {0}) Refusal × State
settle M s slip = unless (settle_bars s slip) s (settle_newest M s s.shelf)
