use Rattle.std.proofs.Common.{ℕ, get_or, ap, ◌∙◌, arith}
use lib.Bits.{bit_or}
use Rattle.std.proofs.lemmas.Nat.{one_shl}
use Rattle.sets.specs.Sets.{has}
use Rattle.product.specs.Words.{ones}
use Rattle.product.proofs.Digits.{ones_or}
use Rattle.product.proofs.Seeds.{one_more_lem}
use Rattle.product.proofs.product.make.mark.Goals as goal

pub returns : goal.returns
returns c =
    let w = get_or c.args.words.now c.args.line 0 in
    let one = one_shl c.args.place 32 c.requires.1 in
    one_more_lem c.args.words.now c.args.line c.args.place _ (omega (arith, c.told-words, c.requires.0))
    (λ i. ap (λ (m : ℕ). has (ones (bit_or w m)) i) one ∙ ones_or w c.args.place i c.requires.1)
