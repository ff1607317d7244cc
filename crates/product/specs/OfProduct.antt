-- The code that a product keeps.
use Rattle.std.specs.Prelude.{◌≡◌, ℕ, Bool, List}
use Rattle.terms.specs.declared.row.Row.{Row}
use Rattle.meaning.specs.Meaning.{Meaning}
use Rattle.meaning.specs.Product.{product_code, product_told}
use Rattle.product.specs.declared.product.Product.{Product}
use Rattle.product.specs.declared.seed.Seed.{Seed}
use Rattle.product.specs.Words.{one_at}
use Rattle.product.specs.Seed.{matrix, matrix_of}

-- the seed, from its rows as words
abbrev pub seed : Product → List (List Bool)
seed p = matrix p.rows p.columns (one_at p.row_words)

unfoldable pub meaning_of : Product → Meaning
meaning_of p = product_code p.rows p.columns (seed p)

unfoldable pub told_of : Product → Row → List ℕ
told_of p = product_told p.rows p.columns (seed p)

-- the product means the product code of the seed, and tells its rows as that is told
abbrev pub ProductOf : Seed → Product → Type 0
ProductOf s p = (meaning_of p ≡ product_code s.rows s.columns (matrix_of s)) × (told_of p ≡ product_told s.rows s.columns (matrix_of s))
