use Rattle.std.proofs.Common.{length, vec_items, arith}
use lib.ListN.{length-map}
use Rattle.sets.specs.Sets.{marks}
use Rattle.listed.specs.OfListed.{sides_of, meaning_of}
use Rattle.listed.proofs.Limits.{limits_of}
use Rattle.listed.proofs.answers.ListedCode.generators.Goals as goal

pub overflow_cast-result : goal.overflow_cast-result
overflow_cast-result c = let l = limits_of c.args.self.now in omega arith

pub returns : goal.returns
unfolding meaning_of
returns c =
    let code = c.args.self.now in
    omega (arith, length-map code.generators (marks (length (sides_of (vec_items code.sides)))))
