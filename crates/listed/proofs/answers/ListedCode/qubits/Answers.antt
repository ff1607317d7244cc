use Rattle.std.proofs.Common.{eqb, vec_items, arith}
use lib.ListN.{length-map}
use Rattle.listed.specs.OfListed.{meaning_of}
use Rattle.listed.proofs.Limits.{limits_of}
use Rattle.listed.proofs.answers.ListedCode.qubits.Goals as goal

pub overflow_cast-result : goal.overflow_cast-result
overflow_cast-result c = let l = limits_of c.args.self.now in omega arith

pub returns : goal.returns
unfolding meaning_of
returns c = omega (arith, length-map (vec_items c.args.self.now.sides) (λ b. eqb b 1))
