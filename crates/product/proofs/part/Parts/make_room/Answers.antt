use Rattle.std.proofs.Common.{◌+◌, ◌*◌, ◌≤◌, length, arith, length-append}
use lib.ListN.{length-map}
use Rattle.sets.specs.Sets.{elements}
use Rattle.product.specs.Words.{ones}
use Rattle.product.specs.Parts.{part_told}
use Rattle.product.specs.declared.part.Part.{Part}
use Rattle.product.proofs.Digits.{few_ones}
use Rattle.product.proofs.part.Parts.make_room.Goals as goal

few_told : (p : Part) → length (part_told p) ≤ 32
few_told p = omega (arith, length-map (elements (ones p.word)) (λ x. p.first + x * p.step), few_ones p.word)

pub returns-then-capacity-len-ge64-clause-room : goal.returns-then-capacity-len-ge64-clause-room
returns-then-capacity-len-ge64-clause-room c =
    let p = c.args.self.now in
    omega (arith, length-append (part_told p.front) (part_told p.back), few_told p.front, few_told p.back)
