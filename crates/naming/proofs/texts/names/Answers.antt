use Rattle.std.proofs.Common.{length, ap, ◌∙◌}
use Rattle.terms.proofs.Answering.{answered_ok, memory_ok}
use Rattle.meaning.specs.Meaning.{Meaning}
use Rattle.meaning.specs.Codes as codes
use Rattle.meaning.proofs.Product.{product_checks, product_generators}
use Rattle.product.specs.OfProduct.{ProductOf}
use Rattle.product.specs.Seed.{marked, matrix_of}
use Rattle.product.specs.Stands.{matrix_seed}
use Rattle.product.proofs.Seeds.{taken}
use Rattle.naming.specs.Texts.{names_text}
use Rattle.naming.proofs.texts.names.Goals as goal

pub invariant_of-grid : goal.invariant_of-grid
invariant_of-grid c =
    let s = c.args.seed in
    let m = answered_ok _ _ (ProductOf s) c.in_ok-product.ensures in
    let t = taken s m.0 in
    let seed : codes.Seed s.rows s.columns (matrix_of s) = matrix_seed s.rows s.columns (λ a b. marked a b s.ones.now) t.rows.0 t.rows.1 t.columns.0 t.columns.1 in
    record {
      some_rows = t.rows.0;
      few_rows = t.rows.1;
      some_columns = t.columns.0;
      few_columns = t.columns.1;
      checks = ap (λ (M : Meaning). length M.checks) m.1.0 ∙ product_checks s.rows s.columns (matrix_of s) seed;
      generators = ap (λ (M : Meaning). length M.generators) m.1.0 ∙ product_generators s.rows s.columns (matrix_of s) seed;
    }

pub returns : goal.returns
returns c =
    let s = c.args.seed in
    let m = answered_ok _ _ (ProductOf s) c.in_ok-product.ensures in
    memory_ok _ _ _ m.0 (c.in_ok-format.ensures.ok ∙ ap (names_text s.rows s.columns) m.1.1)
