use Rattle.std.proofs.Common.{sym}
use Rattle.meaning.proofs.Product.{product_qubits}
use Rattle.product.specs.OfProduct.{seed, meaning_of}
use Rattle.product.specs.Stands.{is_seed}
use Rattle.product.proofs.product.answers.ProductCode.qubits.Goals as goal

pub returns : goal.returns
unfolding meaning_of
returns c = let p = c.args.self.now in sym (product_qubits p.rows p.columns (seed p) (is_seed p))
