-- The solutions of a system of a code are those over the unknowns alone, spread over all qubits, whatever the order of its checks.
use Rattle.std.proofs.Common.{◌≡◌, ℕ, zero, suc, ◌<◌, ◌≤◌, Bool, true, false, ◌⊎◌, List, [], ◌∷◌, map, length, replicate, sym, refl, ap, ◌∙◌, subst, ap₂, inl, inr, arith}
use mathlib.Core.Path.{fun_ext}
use mathlib.Core.List.{map-map}
use Rattle.std.proofs.lemmas.Bool.{and_parts, and_from, cases_lt}
use Rattle.sets.specs.Bits.{alike}
use Rattle.sets.specs.Lists.{In}
use Rattle.sets.specs.Sets.{has, row, odd, size, among as listed}
use Rattle.sets.proofs.Bits.{alike_same, same_alike}
use Rattle.sets.proofs.Sets.{has_below, odd_nil}
use Rattle.sets.proofs.Numbers.{in_among, among_in}
use Rattle.meaning.specs.Meaning.{Meaning}
use Rattle.linear.specs.Field.{bits}
use Rattle.linear.specs.System.{Row, keep, solutions as over_unknowns}
use Rattle.linear.specs.Subsets.{subsets, explains}
use Rattle.linear.specs.Compress.{trues, compress_row}
use Rattle.linear.proofs.Subsets.{solutions_subsets}
use Rattle.linear.proofs.Compress.{solutions_expand}
use Rattle.elimination.specs.Calls.{check}
use Rattle.rules.specs.Systems.{rows, solutions}
use Rattle.rules.proofs.Solutions.{of_explains, in_explains}
use Rattle.systems.specs.Told.{spread}
use Rattle.systems.specs.Stated.{equation}

-- what the check c says of all qubits
abbrev whole : Meaning → List Bool → ℕ → Row Bool
whole M odds c = check (row M.checks c) (has odds c)

module _ (M : Meaning) (odds x : List Bool) where
  of_order : (order : List ℕ) → explains (map (whole M odds) order) x ≡ true → (d : ℕ) → In d order → odd (row M.checks d) x ≡ has odds d
  of_order [] e d n = absurd n
  of_order (c ∷ order) e d n =
      let both = and_parts (alike (odd (row M.checks c) x) (has odds c)) (explains (map (whole M odds) order) x) e in
      elim n [
        | inl same ↦ subst (λ (i : ℕ). odd (row M.checks i) x ≡ has odds i) (sym same) (alike_same (odd (row M.checks c) x) (has odds c) both.0)
        | inr m ↦ of_order order both.1 d m
      ]

  in_order : (order : List ℕ) → ((d : ℕ) → In d order → odd (row M.checks d) x ≡ has odds d) → explains (map (whole M odds) order) x ≡ true
  in_order [] h = refl
  in_order (c ∷ order) h = and_from _ _ (same_alike (odd (row M.checks c) x) (has odds c) (h c (inl refl))) (in_order order (λ d m. h d (inr m)))

pub same_from : (a b : Bool) → (a ≡ true → b ≡ true) → (b ≡ true → a ≡ true) → a ≡ b
same_from true b f g = sym (f refl)
same_from false true f g = g refl
same_from false false f g = refl

all_trues : (k : List Bool) → trues k ≡ replicate (size k) true
all_trues [] = refl
all_trues (true ∷ k) = ap (λ t. true ∷ t) (all_trues k)
all_trues (false ∷ k) = all_trues k

-- past the end there is no row
pub no_row : (sets : List (List Bool)) (d : ℕ) → length sets < suc d → row sets d ≡ []
no_row [] d h = refl
no_row (s ∷ sets) zero h = absurd (omega arith)
no_row (s ∷ sets) (suc d) h = let h' : length sets < suc d = omega arith in no_row sets d h'

not_has : (m : List Bool) (d : ℕ) → length m < suc d → has m d ≡ false
not_has [] d h = refl
not_has (b ∷ m) zero h = absurd (omega arith)
not_has (b ∷ m) (suc d) h = let h' : length m < suc d = omega arith in not_has m d h'

-- the checks `among`, named in some order
module _ (M : Meaning) (k among odds : List Bool) (order : List ℕ) (a : length among ≡ length M.checks) (o : length odds ≡ length M.checks) (named : (d : ℕ) → d < length M.checks → listed d order ≡ has among d) where
  told : (x : List Bool) → ((d : ℕ) → has among d ≡ true → odd (row M.checks d) x ≡ has odds d) → (d : ℕ) → In d order → odd (row M.checks d) x ≡ has odds d
  told x h d m = go (cases_lt d (length M.checks))
    where
      go : (d < length M.checks) ⊎ (length M.checks ≤ d) → odd (row M.checks d) x ≡ has odds d
      go (inl l) = h d (sym (named d l) ∙ in_among d order m)
      go (inr l) =
          let p : length M.checks < suc d = omega arith in
          let q : length odds < suc d = omega arith in
          ap (λ c. odd c x) (no_row M.checks d p) ∙ odd_nil x ∙ sym (not_has odds d q)

  same : (x : List Bool) → explains (rows M.checks among odds) x ≡ explains (map (whole M odds) order) x
  same x =
      same_from (explains (rows M.checks among odds) x) (explains (map (whole M odds) order) x)
      (λ e. in_order M odds x order (told x (of_explains M.checks among odds x a e)))
      (λ e. in_explains M.checks among odds x a (λ d t. let l : d < length M.checks = omega (arith, has_below among d t) in of_order M odds x order e d (among_in d order (named d l ∙ t))))

  pub spread_solutions : solutions M.checks k among odds ≡ map (spread k) (over_unknowns bits (replicate (size k) true) (map (equation M k odds) order))
  spread_solutions =
      ap (λ p. keep p (subsets k)) (fun_ext same)
      ∙ sym (solutions_subsets k (map (whole M odds) order))
      ∙ solutions_expand bits k (map (whole M odds) order)
      ∙ ap₂ (λ t l. map (spread k) (over_unknowns bits t l)) (all_trues k) (map-map (compress_row bits k) (whole M odds) order)
