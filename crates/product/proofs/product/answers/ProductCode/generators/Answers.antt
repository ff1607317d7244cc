use Rattle.std.proofs.Common.{sym}
use Rattle.meaning.proofs.Product.{product-generators}
use Rattle.product.specs.OfProduct.{seed, meaning-of}
use Rattle.product.specs.Stands.{is-seed}
use Rattle.product.proofs.product.answers.ProductCode.generators.Goals as goal

pub returns : goal.returns
unfolding meaning-of
returns c = let p = c.args.self.now in sym (product-generators p.rows p.columns (seed p) (is-seed p))
