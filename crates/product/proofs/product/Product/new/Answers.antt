use Rattle.std.proofs.Common.{sym, ap, ◌∙◌, arith}
use Rattle.terms.proofs.Answering.{answers_ok}
use Rattle.meaning.specs.Product.{product_code, product_told}
use Rattle.product.specs.OfProduct.{meaning_of, told_of}
use Rattle.product.specs.Seed.{matrix, fault_of}
use Rattle.product.proofs.Seeds.{outside_wider, marked_inside, taken}
use Rattle.product.proofs.product.Product.new.Goals as goal

pub words-requires : goal.words-requires
words-requires c =
    let s = c.args.seed in
    let t = taken s (grind (arith, c.in_ok-check.ensures)) in
    outside_wider s.rows s.columns 32 32 t.rows.1 t.columns.1 s.ones.now t.inside

pub invariant_of-result : goal.invariant_of-result
invariant_of-result c =
    let s = c.args.seed in
    let t = taken s (grind (arith, c.in_ok-check.ensures)) in
    record {
      some_rows = t.rows.0;
      few_rows = t.rows.1;
      some_columns = t.columns.0;
      few_columns = t.columns.1;
      crossed = λ a b. c.words.ensures.rows a b ∙ sym (c.words.ensures.columns a b);
      inside = λ a b e. marked_inside s.rows s.columns s.ones.now t.inside a b (sym (c.words.ensures.rows a b) ∙ e);
    }

pub returns : goal.returns
unfolding meaning_of told_of
returns c =
    let r = c.args.seed.rows in
    let n = c.args.seed.columns in
    answers_ok _ (fault_of c.args.seed) _ (grind (arith, c.in_ok-check.ensures))
    (ap (λ f. product_code r n (matrix r n f)) (λ i a b. c.words.ensures.rows a b i), ap (λ f. product_told r n (matrix r n f)) (λ i a b. c.words.ensures.rows a b i))
