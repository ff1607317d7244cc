use Rattle.product.proofs.Entries.{generator_parts}
use Rattle.product.proofs.product.Product.generator_parts.Goals as goal

pub returns : goal.returns
returns c = generator_parts c.args.self.now c.args.a c.args.b c.new.result.front c.new.result.back (cc) (cc) (cc) (cc) (cc) (cc)
