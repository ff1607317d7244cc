-- What an elimination answers for the unknowns alone, in the words of the rules.
use Rattle.std.proofs.Common.{◌≡◌, ℕ, zero, suc, ◌^◌, ◌<◌, ◌≤◌, ◌⊎◌, Option, Some, None, Bool, true, false, not, ◌&&◌, ◌||◌, eqb, List, [], ◌∷◌, map, length, set, replicate, sym, refl, ap, ◌∙◌, subst, inl, inr, true≢false, arith, lt-ltb, eqb-true, length-set, get_or-set_same, get_or-set_other}
use lib.ListN.{length-map, length-replicate}
use Rattle.std.proofs.lemmas.Bool.{and_parts, and_from, cases_lt, le-ltb, false_from_ne_true, true_from_ne_false}
use Rattle.std.specs.Option.{IfNone}
use borrow.Author.Tests.{eqb-false}
use Rattle.sets.specs.Bits.{alike}
use Rattle.sets.specs.Lists.{In}
use Rattle.sets.specs.Sets.{has, row, odd, size, only, among as listed}
use Rattle.sets.proofs.Bits.{alike_same, same_alike}
use Rattle.sets.proofs.Sets.{has_below, odd_nil, only_self, only_other, length_only}
use Rattle.sets.proofs.Numbers.{among_in, in_among}
use Rattle.meaning.specs.Meaning.{Meaning}
use Rattle.linear.specs.Field.{bits}
use Rattle.linear.specs.Basis.{dot}
use Rattle.linear.specs.Compress.{compress}
use Rattle.linear.specs.System.{keep, solutions as over_unknowns}
use Rattle.linear.specs.Subsets.{subsets, explains}
use Rattle.linear.proofs.Subsets.{solutions_subsets, dot_odd}
use Rattle.linear.proofs.Sorted.{in_keep, of_keep}
use Rattle.elimination.specs.Holds.{Zeros}
use Rattle.elimination.specs.Calls.{First, Power, Independent}
use Rattle.rules.specs.Systems.{solutions, log2}
use Rattle.rules.proofs.Solutions.{slack_pow, in_subsets, of_subsets}
use Rattle.systems.specs.Stated.{equation}
use Rattle.systems.specs.Told.{Found, spread, further, free_beside}
use Rattle.systems.proofs.Rows.{no_row, spread_solutions}

-- no solution over the unknowns, no solution
pub none_spread : (k : List Bool) (found : List (List Bool)) → found ≡ [] → map (spread k) found ≡ []
none_spread k found = ap (map (spread k))

-- the first of the solutions over the unknowns, spread, is the first; and where they are 2 ^ s, the slack is s
pub found_spread : (k : List Bool) (found : List (List Bool)) (x : List Bool) (o : Option ℕ) → First true found x → Power bits found o → (E : Type 0) → Found (map (spread k) found) o (spread k x) × IfNone o E
found_spread k found x None h p E = let none : length found ≡ 0 = ap length p in let some : length found ≡ suc (length h.0) = ap length h.1 in absurd (omega arith)
found_spread k found x (Some s) h p E =
    let many : length (map (spread k) found) ≡ 2 ^ s = length-map found (spread k) ∙ p in
    ((map (spread k) h.0, ap (map (spread k)) h.1, ap (λ n. log2 n n) many ∙ slack_pow s), tt)

-- over the unknowns, being zero on the left side of each check is being even on each that is not of `odds`
module _ (M : Meaning) (k odds₀ odds : List Bool) where
  zeros_explain : (order : List ℕ) (x : List Bool) → ((d : ℕ) → In d order → has odds d ≡ false) → Zeros bits (map (equation M k odds₀) order) x → explains (map (equation M k odds) order) x ≡ true
  zeros_explain [] x none z = refl
  zeros_explain (d ∷ order) x none z =
      and_from _ _ (same_alike (odd (compress bits k (row M.checks d)) x) (has odds d) (sym (dot_odd (compress bits k (row M.checks d)) x) ∙ z.0 ∙ sym (none d (inl refl))))
      (zeros_explain order x (λ e m. none e (inr m)) z.1)

  explain_zeros : (order : List ℕ) (x : List Bool) → ((d : ℕ) → In d order → has odds d ≡ false) → explains (map (equation M k odds) order) x ≡ true → Zeros bits (map (equation M k odds₀) order) x
  explain_zeros [] x none e = tt
  explain_zeros (d ∷ order) x none e =
      let both = and_parts (alike (odd (compress bits k (row M.checks d)) x) (has odds d)) (explains (map (equation M k odds) order) x) e in (
        dot_odd (compress bits k (row M.checks d)) x ∙ alike_same (odd (compress bits k (row M.checks d)) x) (has odds d) both.0 ∙ none d (inl refl),
        explain_zeros order x (λ e m. none e (inr m)) both.1,
      )

some_in : {X : Type 0} (x : X) (l : List X) → In x l → 0 < length l
some_in x [] n = absurd n
some_in x (y ∷ l) n = omega arith

nothing_in : {X : Type 0} (l : List X) → ((x : X) → In x l → ⊥) → l ≡ []
nothing_in [] h = refl
nothing_in (x ∷ l) h = absurd (h x (inl refl))

all_has : (n i : ℕ) → i < n → has (replicate n true) i ≡ true
all_has zero i h = absurd (omega arith)
all_has (suc n) zero h = refl
all_has (suc n) (suc i) h = let h' : i < n = omega arith in all_has n i h'

-- a further check c of the code
module _ (M : Meaning) (k among odds : List Bool) (order : List ℕ) (a : length among ≡ length M.checks) (named : (d : ℕ) → d < length M.checks → listed d order ≡ has among d) (c : ℕ) (other : has among c ≡ false) (low : c < length M.checks) where
  none_odd : (d : ℕ) → In d order → has (only (length M.checks) c) d ≡ false
  none_odd d m = false_from_ne_true (has (only (length M.checks) c) d) (λ t. let same : d ≡ c = only_other (length M.checks) c d t in true≢false (sym (in_among c order (subst (λ (n : ℕ). In n order) same m)) ∙ named c low ∙ other))

  with_it : (d : ℕ) → d < length M.checks → listed d (c ∷ order) ≡ has (set among c true) d
  with_it d h = go (eqb d c) refl (named d h)
    where
      go : (t : Bool) → eqb d c ≡ t → listed d order ≡ has among d → (t || listed d order) ≡ has (set among c true) d
      go true e n = let l : c < length among = omega arith in sym (ap (has (set among c true)) (eqb-true d c e) ∙ get_or-set_same among c true false l)
      go false e n = n ∙ sym (get_or-set_other among c d true false (eqb-false d c e))

  L : List (List Bool)
  L = over_unknowns bits (replicate (size k) true) (map (equation M k (only (length M.checks) c)) (c ∷ order))

  L-is : solutions M.checks k (set among c true) (only (length M.checks) c) ≡ map (spread k) L
  unfolding L
  L-is = spread_solutions M k (set among c true) (only (length M.checks) c) (c ∷ order) (length-set among c true ∙ a) (length_only (length M.checks) c) with_it

  L-kept : L ≡ keep (explains (map (equation M k (only (length M.checks) c)) (c ∷ order))) (subsets (replicate (size k) true))
  unfolding L
  L-kept = solutions_subsets (replicate (size k) true) (map (equation M k (only (length M.checks) c)) (c ∷ order))

  free_length : (b : Bool) → eqb (length L) 0 ≡ b → not b ≡ free_beside M k among c
  free_length b e = ap not (sym (ap (λ l. eqb (length l) 0) L-is ∙ ap (λ n. eqb n 0) (length-map L (spread k)) ∙ e))

  pub free_is : (r : Bool) → Independent bits (size k) (map (equation M k odds) order) (compress bits k (row M.checks c)) r → r ≡ free_beside M k among c
  free_is true (x, long, zeros, off) =
      let on : odd (compress bits k (row M.checks c)) x ≡ true = sym (dot_odd (compress bits k (row M.checks c)) x) ∙ true_from_ne_false _ off in
      let says : explains (map (equation M k (only (length M.checks) c)) (c ∷ order)) x ≡ true =
      and_from _ _ (same_alike (odd (compress bits k (row M.checks c)) x) (has (only (length M.checks) c) c) (on ∙ sym (only_self (length M.checks) c low)))
      (zeros_explain M k odds (only (length M.checks) c) order x none_odd zeros) in
      let within : In x (subsets (replicate (size k) true)) =
      in_subsets (replicate (size k) true) x (record { long = long ∙ sym (length-replicate (size k) true); inside = λ i t. all_has (size k) i (omega (arith, has_below x i t, long)) }) in
      let there : In x L = subst (In x) (sym L-kept) (in_keep (λ y z. Unit {0}) (explains (map (equation M k (only (length M.checks) c)) (c ∷ order))) x (subsets (replicate (size k) true)) within says) in
      free_length false (false_from_ne_true (eqb (length L) 0) (λ t. absurd (omega (arith, some_in x L there, eqb-true (length L) 0 t))))
  free_is false off = free_length true (ap (λ l. eqb (length l) 0) (L-kept ∙ nothing_in _ none))
    where
      none : (x : List Bool) → In x (keep (explains (map (equation M k (only (length M.checks) c)) (c ∷ order))) (subsets (replicate (size k) true))) → ⊥
      none x m =
          let r = of_keep (λ y z. Unit {0}) (explains (map (equation M k (only (length M.checks) c)) (c ∷ order))) x (subsets (replicate (size k) true)) m in
          let u = of_subsets (replicate (size k) true) x r.0 in
          let both = and_parts (alike (odd (compress bits k (row M.checks c)) x) (has (only (length M.checks) c) c)) (explains (map (equation M k (only (length M.checks) c)) order) x) r.1 in
          true≢false (
          sym (dot_odd (compress bits k (row M.checks c)) x ∙ alike_same (odd (compress bits k (row M.checks c)) x) (has (only (length M.checks) c) c) both.0 ∙ only_self (length M.checks) c low)
          ∙ off x (u.long ∙ length-replicate (size k) true) (explain_zeros M k odds (only (length M.checks) c) order x none_odd both.1)
          )

-- a check that the code does not have holds no unknown
odd_compress_nil : (k x : List Bool) → odd (compress bits k []) x ≡ false
odd_compress_nil [] x = odd_nil x
odd_compress_nil (true ∷ k) [] = refl
odd_compress_nil (true ∷ k) (y ∷ x) = odd_compress_nil k x
odd_compress_nil (false ∷ k) x = odd_compress_nil k x

-- what is zero on all checks is zero on each
zero_on : (M : Meaning) (k odds : List Bool) (order : List ℕ) (x : List Bool) → Zeros bits (map (equation M k odds) order) x → (d : ℕ) → In d order → dot bits (compress bits k (row M.checks d)) x ≡ false
zero_on M k odds [] x z d m = absurd m
zero_on M k odds (c ∷ order) x z d (inl e) = ap (λ n. dot bits (compress bits k (row M.checks n)) x) e ∙ z.0
zero_on M k odds (c ∷ order) x z d (inr m) = zero_on M k odds order x z.1 d m

-- the answer for every number, one of the checks added and one that is no check's too
pub free_answer : (M : Meaning) (k among odds : List Bool) (order : List ℕ) → length among ≡ length M.checks → ((d : ℕ) → d < length M.checks → listed d order ≡ has among d) → (c : ℕ) (r : Bool) → Independent bits (size k) (map (equation M k odds) order) (compress bits k (row M.checks c)) r → r ≡ (further M among c && free_beside M k among c)
free_answer M k among odds order a named c r i = go (cases_lt c (length M.checks))
  where
    -- where each vector that is zero on the checks added is zero on c
    none : ((x : List Bool) → Zeros bits (map (equation M k odds) order) x → dot bits (compress bits k (row M.checks c)) x ≡ false) → r ≡ false
    none nil = by r i
      where
        by : (r : Bool) → Independent bits (size k) (map (equation M k odds) order) (compress bits k (row M.checks c)) r → r ≡ false
        by true (x, long, zeros, off) = absurd (off (nil x zeros))
        by false off = refl

    at : (b : Bool) → has among c ≡ b → c < length M.checks → r ≡ (not b && free_beside M k among c)
    at true e low = none (λ x z. zero_on M k odds order x z c (among_in c order (named c low ∙ e)))
    at false e low = free_is M k among odds order a named c e low r i

    go : (c < length M.checks) ⊎ (length M.checks ≤ c) → r ≡ (further M among c && free_beside M k among c)
    go (inl low) = at (has among c) refl low ∙ ap (λ b. (b && not (has among c)) && free_beside M k among c) (sym (lt-ltb c (length M.checks) low))
    go (inr high) =
        let p : length M.checks < suc c = omega arith in
        none (λ x z. dot_odd (compress bits k (row M.checks c)) x ∙ ap (λ l. odd (compress bits k l) x) (no_row M.checks c p) ∙ odd_compress_nil k x)
        ∙ ap (λ b. (b && not (has among c)) && free_beside M k among c) (sym (le-ltb c (length M.checks) high))
