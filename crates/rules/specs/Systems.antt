-- A system: unknown qubits and checks. Its solutions, lesser first; and the slack.
use Rattle.std.specs.Prelude.{◌≡◌, ℕ, zero, suc, ◌/◌, ◌<◌, Bool, true, false, List, [], ◌∷◌, length, drop, nat_le}
use Rattle.sets.specs.Sets.{has, row, odd}
use Rattle.linear.specs.System.{Row, keep, keep_if}
use Rattle.linear.specs.Subsets.{subsets, explains}

-- what the checks of the set `among` say: each holds an odd number exactly if it is one of `odds`
abbrev pub rows : List (List Bool) → List Bool → List Bool → List (Row Bool)
rows [] among odds = []
rows (c ∷ checks) among odds = keep_if (has among 0) (record { left = c; right = has odds 0 }) (rows checks (drop 1 among) (drop 1 odds))

-- all subsets of the unknowns that put an odd number into exactly the odd ones of the checks `among`, the lesser first
abbrev pub solutions : List (List Bool) → List Bool → List Bool → List Bool → List (List Bool)
solutions checks unknowns among odds = keep (explains (rows checks among odds)) (subsets unknowns)

-- the same as a property of z
pub record Solves (checks : List (List Bool)) (unknowns among odds z : List Bool) : Type 0 where
  pub range : length z ≡ length unknowns
  pub inside : (i : ℕ) → has z i ≡ true → has unknowns i ≡ true
  pub odd_where : (d : ℕ) → has among d ≡ true → odd (row checks d) z ≡ has odds d

-- the logarithm of a power of 2, found in at most `turns` halvings
abbrev pub log2 : ℕ → ℕ → ℕ
log2 zero n = 0
log2 (suc turns) n = elim (nat_le n 1) [ true ↦ 0 | false ↦ suc (log2 turns (n / 2)) ]

-- the slack of a system: the k of its 2 ^ k solutions
abbrev pub slack : List (List Bool) → ℕ
slack found = log2 (length found) (length found)

-- a is the lesser of the two: it lacks the lowest number in which they differ
pub record Lesser (a b : List Bool) : Type 0 where
  pub at_place : ℕ
  pub lacks : has a at_place ≡ false
  pub holds : has b at_place ≡ true
  pub below : (j : ℕ) → j < at_place → has a j ≡ has b j
