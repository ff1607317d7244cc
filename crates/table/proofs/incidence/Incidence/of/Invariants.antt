use Rattle.std.proofs.Common.{◌≡◌, map}
use Rattle.std.specs.List.{range_with_len}
use Rattle.terms.specs.declared.row.Row.TheVariants.{Check}
use Rattle.table.proofs.incidence.Incidence.of.Given as goal

abbrev pub invariant-loop-k : goal.invariant-loop-k
invariant-loop-k g l = l.rows ≡ map (λ k. g.C.Code.told l.code (Check k)) (range_with_len 0 l.k)
