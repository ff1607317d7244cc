-- The product code of any seed is sound.
use Rattle.std.proofs.Common.{◌≡◌, ℕ, zero, suc, ◌+◌, ◌*◌, ◌<◌, ◌≤◌, Bool, true, false, cond, ◌&&◌, eqb, ◌⊎◌, List, [], ◌∷◌, ◌++◌, map, length, replicate, sym, refl, ap, ◌∙◌, inl, inr, arith, length-append, ne_eqb, eqb-true}
use lib.ListN.{length-map, length-replicate}
use borrow.Author.Tests.{eqb-false}
use Rattle.std.specs.List.{range_with_len}
use Rattle.std.proofs.lemmas.Nat.{mul-le}
use Rattle.std.proofs.lemmas.List.FromFn.{length-range_with_len}
use Rattle.std.proofs.lemmas.Bool.{cases_Bool}
use Rattle.sets.specs.Bits.{flip}
use Rattle.sets.specs.Lists.{In, flat}
use Rattle.sets.specs.Sets.{has, row, empty, only, odd}
use Rattle.sets.proofs.Bits.{flip_self, flip_false}
use Rattle.sets.proofs.Lists.{of_map, of_flat}
use Rattle.sets.proofs.Numbers.{eqb_same, in_counting}
use Rattle.sets.proofs.Sets.{has_mapped, odd_empty, odd_only, odd_comm, odd_append, length_only, row_of}
use Rattle.meaning.specs.Meaning.{Sound, qubits}
use Rattle.meaning.specs.Product.{column, check_at, generator_at, product_code}
use Rattle.meaning.specs.Codes.{Seed, ProductSound}
use Rattle.meaning.proofs.Blocks.{long_if, length_grid}

-- the sum of bits over a list
abbrev total : (ℕ → Bool) → List ℕ → Bool
total f [] = false
total f (x ∷ l) = flip (f x) (total f l)

odd_flat : (n : ℕ) (f g : ℕ → List Bool) (l : List ℕ) → ((x : ℕ) → length (f x) ≡ n) → ((x : ℕ) → length (g x) ≡ n) → odd (flat f l) (flat g l) ≡ total (λ x. odd (f x) (g x)) l
odd_flat n f g [] p q = refl
odd_flat n f g (x ∷ l) p q = odd_append (f x) (flat f l) (g x) (flat g l) (p x ∙ sym (q x)) ∙ ap (flip (odd (f x) (g x))) (odd_flat n f g l p q)

total_none : (f : ℕ → Bool) (from n : ℕ) → ((x : ℕ) → from ≤ x → f x ≡ false) → total f (range_with_len from n) ≡ false
total_none f from zero h = refl
total_none f from (suc n) h = ap (λ t. flip t (total f (range_with_len (from + 1) n))) (h from (omega arith)) ∙ total_none f (from + 1) n (λ x k. h x (omega arith))

total_one : (f : ℕ → Bool) (from n b : ℕ) → ((x : ℕ) → (x ≡ b → ⊥) → f x ≡ false) → from ≤ b → b < from + n → total f (range_with_len from n) ≡ f b
total_one f from zero b h p q = absurd (omega arith)
total_one f from (suc n) b h p q = go (cases_Bool (eqb from b)) (total_one f (from + 1) n b h)
  where
    go : (eqb from b ≡ true) ⊎ (eqb from b ≡ false) → (from + 1 ≤ b → b < from + 1 + n → total f (range_with_len (from + 1) n) ≡ f b) → flip (f from) (total f (range_with_len (from + 1) n)) ≡ f b
    go (inl e) ih =
        let g : from ≡ b = eqb-true from b e in
        ap (flip (f from)) (total_none f (from + 1) n (λ x k. h x (λ z. absurd (omega arith)))) ∙ flip_false (f from) ∙ ap f g
    go (inr e) ih =
        let n₀ : from ≡ b → ⊥ = eqb-false from b e in
        let k₁ : from + 1 ≤ b = omega (arith, n₀) in
        let k₂ : b < from + 1 + n = omega arith in
        ap (λ t. flip t (total f (range_with_len (from + 1) n))) (h from n₀) ∙ ih k₁ k₂

module _ (r n : ℕ) (H : List (List Bool)) (seed : Seed r n H) where
  pub row_long : (a : ℕ) → a < r → length (row H a) ≡ n
  row_long a h = let k : a < length H = omega (arith, seed.rows) in seed.columns (row H a) (row_of H a k)

  pub column_long : (b : ℕ) → length (column r n H b) ≡ r
  column_long b = length-map H (λ h. has h b) ∙ seed.rows

  -- what stands in row a and column b
  pub column_has : (a b : ℕ) → has (row H a) b ≡ has (column r n H b) a
  column_has a b = sym (has_mapped (λ h. has h b) refl H a)

  pub product_qubits : qubits (product_code r n H) ≡ n * n + r * r
  product_qubits = length-append (replicate (n * n) false) (replicate (r * r) true) ∙ ap (λ k. k + length (replicate (r * r) true)) (length-replicate (n * n) false) ∙ ap (λ k. n * n + k) (length-replicate (r * r) true)

  pub product_checks : length (product_code r n H).checks ≡ n * r
  product_checks = length_grid r (λ b. map (λ a'. check_at r n H b a') (range_with_len 0 r)) n (λ b. length-map (range_with_len 0 r) (λ a'. check_at r n H b a') ∙ length-range_with_len 0 r)

  pub product_generators : length (product_code r n H).generators ≡ r * n
  product_generators = length_grid n (λ a. map (λ b'. generator_at r n H a b') (range_with_len 0 n)) r (λ a. length-map (range_with_len 0 n) (λ b'. generator_at r n H a b') ∙ length-range_with_len 0 n)

  two_grids : (f g : ℕ → List Bool) → ((x : ℕ) → length (f x) ≡ n) → ((x : ℕ) → length (g x) ≡ r) → length (flat f (range_with_len 0 n) ++ flat g (range_with_len 0 r)) ≡ qubits (product_code r n H)
  two_grids f g p q =
      length-append (flat f (range_with_len 0 n)) (flat g (range_with_len 0 r))
      ∙ ap (λ k. k + length (flat g (range_with_len 0 r))) (length_grid n f n p)
      ∙ ap (λ k. n * n + k) (length_grid r g r q)
      ∙ sym product_qubits

  check_long : (b a' : ℕ) → a' < r → length (check_at r n H b a') ≡ qubits (product_code r n H)
  check_long b a' h =
      two_grids (λ x. cond (eqb x b) (row H a') (empty n)) (λ a. cond (has (row H a) b) (only r a') (empty r))
      (λ x. long_if (eqb x b) n (row H a') (row_long a' h))
      (λ a. long_if (has (row H a) b) r (only r a') (length_only r a'))

  generator_long : (a b' : ℕ) → length (generator_at r n H a b') ≡ qubits (product_code r n H)
  generator_long a b' =
      two_grids (λ b. cond (has (row H a) b) (only n b') (empty n)) (λ x. cond (eqb x a) (column r n H b') (empty r))
      (λ b. long_if (has (row H a) b) n (only n b') (length_only n b'))
      (λ x. long_if (eqb x a) r (column r n H b') (column_long b'))

  -- a check and a generator share a qubit of side 0 exactly if they share one of side 1, and at most one of each
  shares : (b a' a b' : ℕ) → b < n → a' < r → a < r → b' < n → odd (check_at r n H b a') (generator_at r n H a b') ≡ false
  shares b a' a b' hb ha' ha hb' =
      odd_append (flat c₀ (range_with_len 0 n)) (flat c₁ (range_with_len 0 r)) (flat g₀ (range_with_len 0 n)) (flat g₁ (range_with_len 0 r)) (length_grid n c₀ n c₀-long ∙ sym (length_grid n g₀ n g₀-long))
      ∙ ap (λ t. flip t (odd (flat c₁ (range_with_len 0 r)) (flat g₁ (range_with_len 0 r)))) (odd_flat n c₀ g₀ (range_with_len 0 n) c₀-long g₀-long ∙ total_one (λ x. odd (c₀ x) (g₀ x)) 0 n b left_off (omega arith) (omega arith) ∙ left)
      ∙ ap (flip (has (row H a) b && has (row H a') b')) (odd_flat r c₁ g₁ (range_with_len 0 r) c₁-long g₁-long ∙ total_one (λ x. odd (c₁ x) (g₁ x)) 0 r a right_off (omega arith) (omega arith) ∙ right)
      ∙ flip_self (has (row H a) b && has (row H a') b')
    where
      c₀ : ℕ → List Bool
      c₀ x = cond (eqb x b) (row H a') (empty n)

      g₀ : ℕ → List Bool
      g₀ x = cond (has (row H a) x) (only n b') (empty n)

      c₁ : ℕ → List Bool
      c₁ x = cond (has (row H x) b) (only r a') (empty r)

      g₁ : ℕ → List Bool
      g₁ x = cond (eqb x a) (column r n H b') (empty r)

      c₀-long : (x : ℕ) → length (c₀ x) ≡ n
      c₀-long x = long_if (eqb x b) n (row H a') (row_long a' ha')

      g₀-long : (x : ℕ) → length (g₀ x) ≡ n
      g₀-long x = long_if (has (row H a) x) n (only n b') (length_only n b')

      c₁-long : (x : ℕ) → length (c₁ x) ≡ r
      c₁-long x = long_if (has (row H x) b) r (only r a') (length_only r a')

      g₁-long : (x : ℕ) → length (g₁ x) ≡ r
      g₁-long x = long_if (eqb x a) r (column r n H b') (column_long b')

      left_off : (x : ℕ) → (x ≡ b → ⊥) → odd (c₀ x) (g₀ x) ≡ false
      left_off x h = ap (λ t. odd (cond t (row H a') (empty n)) (g₀ x)) (ne_eqb x b h) ∙ odd_comm (empty n) (g₀ x) ∙ odd_empty (g₀ x) n

      right_off : (x : ℕ) → (x ≡ a → ⊥) → odd (c₁ x) (g₁ x) ≡ false
      right_off x h = ap (λ t. odd (c₁ x) (cond t (column r n H b') (empty r))) (ne_eqb x a h) ∙ odd_empty (c₁ x) r

      pick : (t : Bool) (c : List Bool) (m k : ℕ) → k < m → odd c (cond t (only m k) (empty m)) ≡ (t && has c k)
      pick true c m k h = odd_only c m k h
      pick false c m k h = odd_empty c m

      left : odd (c₀ b) (g₀ b) ≡ (has (row H a) b && has (row H a') b')
      left = ap (λ t. odd (cond t (row H a') (empty n)) (g₀ b)) (eqb_same b) ∙ pick (has (row H a) b) (row H a') n b' hb'

      right : odd (c₁ a) (g₁ a) ≡ (has (row H a) b && has (row H a') b')
      right =
          ap (λ t. odd (c₁ a) (cond t (column r n H b') (empty r))) (eqb_same a)
          ∙ odd_comm (c₁ a) (column r n H b')
          ∙ pick (has (row H a) b) (column r n H b') r a' ha'
          ∙ ap (λ t. has (row H a) b && t) (sym (column_has a' b'))

  of_checks : (c : List Bool) → In c (product_code r n H).checks → (b : ℕ) × (a' : ℕ) × (b < n) × (a' < r) × (c ≡ check_at r n H b a')
  of_checks c m =
      let f = of_flat c (range_with_len 0 n) (λ b _. map (λ a'. check_at r n H b a') (range_with_len 0 r)) m in
      let g = of_map (λ a'. check_at r n H f.0 a') c (range_with_len 0 r) f.2 in
      (f.0, g.0, omega (arith, (in_counting 0 n f.0 f.1).1), omega (arith, (in_counting 0 r g.0 g.1).1), g.2)

  of_generators : (g : List Bool) → In g (product_code r n H).generators → (a : ℕ) × (b' : ℕ) × (a < r) × (b' < n) × (g ≡ generator_at r n H a b')
  of_generators c m =
      let f = of_flat c (range_with_len 0 r) (λ a _. map (λ b'. generator_at r n H a b') (range_with_len 0 n)) m in
      let g = of_map (λ b'. generator_at r n H f.0 b') c (range_with_len 0 n) f.2 in
      (f.0, g.0, omega (arith, (in_counting 0 r f.0 f.1).1), omega (arith, (in_counting 0 n g.0 g.1).1), g.2)

  sound : Sound (product_code r n H)
  sound =
      record {
        some_qubit = omega (arith, product_qubits, mul-le 1 1 n n seed.some_column seed.some_column);
        few_qubits = omega (arith, product_qubits, mul-le n n 32 32 seed.few_columns seed.few_columns, mul-le r r 32 32 seed.few_rows seed.few_rows);
        few_checks = omega (arith, product_checks, mul-le n r 32 32 seed.few_columns seed.few_rows);
        few_generators = omega (arith, product_generators, mul-le r n 32 32 seed.few_rows seed.few_columns);
        checks_range = λ c m. let p = of_checks c m in ap length p.4 ∙ check_long p.0 p.1 p.3;
        generators_range = λ g m. let p = of_generators g m in ap length p.4 ∙ generator_long p.0 p.1;
        even = λ c g m k. let p = of_checks c m in let q = of_generators g k in
            ap (λ t. odd t g) p.4 ∙ ap (odd (check_at r n H p.0 p.1)) q.4 ∙ shares p.0 p.1 q.0 q.1 p.2 p.3 q.2 q.3;
      }

pub product_sound : ProductSound
product_sound r n H seed = sound r n H seed
