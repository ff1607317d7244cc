use Rattle.std.proofs.Common.{◌+◌, ◌*◌, sym, ◌∙◌, arith}
use lib.ListN.{length-map}
use Rattle.sets.specs.Sets.{elements}
use Rattle.product.specs.Words.{ones}
use Rattle.product.proofs.Digits.{count_ones}
use Rattle.product.proofs.part.Part.len.Goals as goal

pub returns-clause-value : goal.returns-clause-value
returns-clause-value c =
    let p = c.args.self.now in
    sym (count_ones p.word (omega arith)) ∙ sym (length-map (elements (ones p.word)) (λ x. p.first + x * p.step))
