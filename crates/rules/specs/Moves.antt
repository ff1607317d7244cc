-- What a call may do to a trial, where solve, sweep and settle may flip any solution of their system, not only the least.
use Rattle.std.specs.Prelude.{◌≡◌, ℕ, ◌≤◌, Bool, true, false, cond, List, [], ◌∷◌}
use Rattle.sets.specs.Lists.{In}
use Rattle.sets.specs.Sets.{has, empty, only, any, size, lowest}
use Rattle.meaning.specs.Meaning.{Meaning, qubits}
use Rattle.rules.specs.Reports.{product, Named}
use Rattle.rules.specs.Systems.{solutions}
use Rattle.rules.specs.States.{Entry, State, finish, count, voided, shelve, reopen}
use Rattle.rules.specs.Clusters.{touched, cluster, connecting, internal, free}
use Rattle.rules.specs.Calls.{held, some_outside, choose}

-- the solutions that a solve at q, a sweep, and a settle of the entry e (with l left on the shelf) choose from
abbrev pub solve_from : Meaning → State → ℕ → List (List Bool)
solve_from M s q = solutions M.checks (cluster M s q) (internal M s q (cluster M s q)) s.odds

abbrev pub sweep_from : Meaning → State → List (List Bool)
sweep_from M s = solutions M.checks s.erased (touched M s s.erased) s.odds

abbrev pub settle_from : Meaning → State → Entry → List Entry → List (List Bool)
settle_from M s e l = solutions M.checks e.members (touched M (reopen e.check l s) e.members) s.odds

-- the connecting checks of the cluster of q
abbrev pub connects : Meaning → State → ℕ → List Bool
connects M s q = connecting M s q (cluster M s q)

-- one move from s to t
pub data Move (M : Meaning) (s t : State) : Type 0 where
  -- a call that is refused, or a close
  stays : t ≡ s → Move M s t
  peels : (c : ℕ) → s.void ≡ false → has s.closed c ≡ false → size (held M s c) ≡ 1
      → t ≡ count 1 0 0 (finish M (held M s c) (cond (has s.odds c) (held M s c) (empty (qubits M))) s) → Move M s t
  prunes : (q : ℕ) (l : List ℕ) → s.void ≡ false → Named M l → some_outside M.generators s.erased l ≡ false → has (product M l) q ≡ true
      → t ≡ count 0 1 0 (finish M (only (qubits M) q) (empty (qubits M)) s) → Move M s t
  solves : (q : ℕ) (z : List Bool) → s.void ≡ false → has s.erased q ≡ true → size (connects M s q) ≤ 1 → free M s (cluster M s q) (connects M s q) ≡ false
      → In z (solve_from M s q) → t ≡ choose M (cluster M s q) z (solve_from M s q) s → Move M s t
  shelves : (q : ℕ) (z : List Bool) → s.void ≡ false → has s.erased q ≡ true → size (connects M s q) ≤ 1 → free M s (cluster M s q) (connects M s q) ≡ true
      → In z (solve_from M s q) → t ≡ shelve (cluster M s q) (lowest (connects M s q)) s → Move M s t
  fails : (q : ℕ) → s.void ≡ false → has s.erased q ≡ true → solve_from M s q ≡ [] → t ≡ voided s → Move M s t
  sweeps : (z : List Bool) → s.void ≡ false → In z (sweep_from M s) → t ≡ choose M s.erased z (sweep_from M s) s → Move M s t
  sweep_fails : s.void ≡ false → sweep_from M s ≡ [] → t ≡ voided s → Move M s t
  settles : (e : Entry) (l : List Entry) (z : List Bool) → s.void ≡ false → any s.erased ≡ false → s.shelf ≡ e ∷ l
      → In z (settle_from M s e l) → t ≡ choose M e.members z (settle_from M s e l) (reopen e.check l s) → Move M s t

-- from s, one move after another leads to t
pub data Moves (M : Meaning) (t : State) : State → Type 0 where
  arrived : Moves M t t
  moved : {s u : State} → Move M s u → Moves M t u → Moves M t s
