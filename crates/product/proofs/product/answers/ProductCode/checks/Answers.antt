use Rattle.std.proofs.Common.{sym}
use Rattle.meaning.proofs.Product.{product-checks}
use Rattle.product.specs.OfProduct.{seed, meaning-of}
use Rattle.product.specs.Stands.{is-seed}
use Rattle.product.proofs.product.answers.ProductCode.checks.Goals as goal

pub returns : goal.returns
unfolding meaning-of
returns c = let p = c.args.self.now in sym (product-checks p.rows p.columns (seed p) (is-seed p))
