-- What the interface of a code asks of a product: that it is sound, and tells each row whole.
use Rattle.std.proofs.Common.{◌∙◌, ap}
use Rattle.std.specs.Prelude.{ℕ, ◌≤◌, Bool, map, length}
use Rattle.std.specs.List.{range_with_len}
use Rattle.std.proofs.lemmas.List.FromFn.{length-map-range_with_len}
use Rattle.sets.proofs.Lists.{of_map}
use Rattle.meaning.specs.Meaning.{Sound}
use Rattle.meaning.specs.Telling.{Tells}
use Rattle.meaning.specs.Codes.{Seed}
use Rattle.meaning.proofs.Product.{product_sound}
use Rattle.meaning.proofs.Told.{product_tells}
use Rattle.product.specs.declared.product.Product.{Product}
use Rattle.product.specs.Seed.{matrix}
use Rattle.product.specs.Words.{one_at}
use Rattle.product.specs.OfProduct.{seed, meaning_of, told_of}

-- a matrix of 1 to 32 rows and columns is a seed
pub matrix_seed : (r n : ℕ) (f : ℕ → ℕ → Bool) → 1 ≤ r → r ≤ 32 → 1 ≤ n → n ≤ 32 → Seed r n (matrix r n f)
matrix_seed r n f some_row few_rows some_column few_columns =
    record {
      some_row = some_row;
      few_rows = few_rows;
      some_column = some_column;
      few_columns = few_columns;
      rows = length-map-range_with_len (λ a. map (λ b. f a b) (range_with_len 0 n)) 0 r;
      columns = λ h m. let x = of_map (λ a. map (λ b. f a b) (range_with_len 0 n)) h (range_with_len 0 r) m in ap length x.2 ∙ length-map-range_with_len (λ b. f x.0 b) 0 n;
    }

module _ (p : Product) where
  pub is_seed : Seed p.rows p.columns (seed p)
  is_seed = matrix_seed p.rows p.columns (one_at p.row_words) p.some_rows p.few_rows p.some_columns p.few_columns

  pub product_sound_of : Sound (meaning_of p)
  unfolding meaning_of
  product_sound_of = product_sound p.rows p.columns (seed p) is_seed

  pub product_tells_of : Tells (meaning_of p) (told_of p)
  unfolding meaning_of told_of
  product_tells_of = product_tells p.rows p.columns (seed p) is_seed
