-- The words of a product are the rows and columns of its seed.
use Rattle.std.proofs.Common.{◌≡◌, ℕ, ◌+◌, ◌*◌, ◌<◌, ◌≤◌, false, ◌⊎◌, List, [], ◌++◌, map, get_or, sym, ap, ◌∙◌, inl, inr, mul-one, arith}
use Rattle.std.specs.List.{range_with_len}
use Rattle.std.proofs.lemmas.List.FromFn.{length-map-range_with_len, get_or-map-range_with_len}
use Rattle.std.proofs.lemmas.List.{get_or_past}
use Rattle.std.proofs.lemmas.Bool.{cases_lt, false_from_ne_true}
use Rattle.sets.specs.Sets.{has, row, elements}
use Rattle.sets.proofs.Numbers.{elements_same}
use Rattle.meaning.specs.Product.{column, check_told, generator_told}
use Rattle.meaning.proofs.Product.{column_has}
use Rattle.product.specs.declared.part.Part.{Part}
use Rattle.product.specs.declared.product.Product.{Product}
use Rattle.product.specs.Words.{ones, one_at}
use Rattle.product.specs.OfProduct.{seed}
use Rattle.product.specs.Parts.{part_told}
use Rattle.product.specs.Stands.{is_seed}

part_is : (f : Part) (w first step : ℕ) (h : ℕ → ℕ) {l : List ℕ} → f.word ≡ w → f.first ≡ first → f.step ≡ step → ((x : ℕ) → first + x * step ≡ h x) → l ≡ elements (ones w) → part_told f ≡ map h l
part_is f w first step h e₀ e₁ e₂ same el = (λ i. map (λ x. e₁ i + x * e₂ i) (elements (ones (e₀ i)))) ∙ (λ i. map (λ x. same x i) (sym el i))

module _ (p : Product) where
  -- what lies outside the seed is not 1
  off : (a b : ℕ) → (a < p.rows → b < p.columns → ⊥) → one_at p.row_words a b ≡ false
  off a b h = false_from_ne_true (one_at p.row_words a b) (λ e. let i = p.inside a b e in h i.0 i.1)

  seed_row : (a : ℕ) → a < p.rows → row (seed p) a ≡ map (λ b. one_at p.row_words a b) (range_with_len 0 p.columns)
  seed_row a h = get_or-map-range_with_len (λ a. map (λ b. one_at p.row_words a b) (range_with_len 0 p.columns)) 0 p.rows a a [] h (omega arith)

  pub entry : (a b : ℕ) → has (row (seed p) a) b ≡ one_at p.row_words a b
  entry a b = go (cases_lt a p.rows) (cases_lt b p.columns)
    where
      go : (a < p.rows) ⊎ (p.rows ≤ a) → (b < p.columns) ⊎ (p.columns ≤ b) → has (row (seed p) a) b ≡ one_at p.row_words a b
      go (inl h) (inl k) = ap (λ l. has l b) (seed_row a h) ∙ get_or-map-range_with_len (λ b. one_at p.row_words a b) 0 p.columns b b false k (omega arith)
      go (inl h) (inr k) =
          let long = length-map-range_with_len (λ b. one_at p.row_words a b) 0 p.columns in
          ap (λ l. has l b) (seed_row a h) ∙ get_or_past (map (λ b. one_at p.row_words a b) (range_with_len 0 p.columns)) b false (omega (arith, long)) ∙ sym (off a b (λ _ l. absurd (omega arith)))
      go (inr h) k =
          let long = (is_seed p).rows in
          ap (λ l. has l b) (get_or_past (seed p) a [] (omega (arith, long))) ∙ sym (off a b (λ l _. absurd (omega arith)))

  pub row_elements : (a : ℕ) → elements (row (seed p) a) ≡ elements (ones (get_or p.row_words a 0))
  row_elements a = elements_same 0 (row (seed p) a) (ones (get_or p.row_words a 0)) (λ b. entry a b)

  pub column_elements : (b : ℕ) → elements (column p.rows p.columns (seed p) b) ≡ elements (ones (get_or p.column_words b 0))
  column_elements b =
      elements_same 0 (column p.rows p.columns (seed p) b) (ones (get_or p.column_words b 0))
      (λ a. sym (column_has p.rows p.columns (seed p) (is_seed p) a b) ∙ entry a b ∙ p.crossed a b)

  -- a row's parts, by their words, first qubits and steps
  pub check_parts : (b a : ℕ) (f g : Part) → f.word ≡ get_or p.row_words a 0 → f.first ≡ b * p.columns → f.step ≡ 1
      → g.word ≡ get_or p.column_words b 0 → g.first ≡ p.columns * p.columns + a → g.step ≡ p.rows
      → part_told f ++ part_told g ≡ check_told p.rows p.columns (seed p) b a
  check_parts b a f g fw ff fs gw gf gs =
      let front = part_is f _ _ _ (λ b'. b * p.columns + b') fw ff fs (λ x. ap (λ k. b * p.columns + k) (mul-one x)) (row_elements a) in
      let back = part_is g _ _ _ (λ a'. p.columns * p.columns + (a' * p.rows + a)) gw gf gs (λ x. omega arith) (column_elements b) in
      λ i. front i ++ back i

  pub generator_parts : (a b : ℕ) (f g : Part) → f.word ≡ get_or p.row_words a 0 → f.first ≡ b → f.step ≡ p.columns
      → g.word ≡ get_or p.column_words b 0 → g.first ≡ p.columns * p.columns + a * p.rows → g.step ≡ 1
      → part_told f ++ part_told g ≡ generator_told p.rows p.columns (seed p) a b
  generator_parts a b f g fw ff fs gw gf gs =
      let front = part_is f _ _ _ (λ b'. b' * p.columns + b) fw ff fs (λ x. omega arith) (row_elements a) in
      let back = part_is g _ _ _ (λ a'. p.columns * p.columns + (a * p.rows + a')) gw gf gs (λ x. omega (arith, mul-one x)) (column_elements b) in
      λ i. front i ++ back i
