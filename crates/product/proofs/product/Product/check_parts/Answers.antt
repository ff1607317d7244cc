use Rattle.product.proofs.Entries.{check_parts}
use Rattle.product.proofs.product.Product.check_parts.Goals as goal

pub returns : goal.returns
returns c = check_parts c.args.self.now c.args.b c.args.a c.new.result.front c.new.result.back (cc) (cc) (cc) (cc) (cc) (cc)
