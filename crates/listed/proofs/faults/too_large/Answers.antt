use Rattle.std.proofs.Common.{leb, rules, tests, ◌∙◌}
use Rattle.std.proofs.lemmas.Iterator.{YieldsList-from_slice}
use Rattle.std.proofs.lemmas.Iterator.Search.{any_from_yields_List}
use Rattle.listed.proofs.Chain.{any_is}
use Rattle.listed.proofs.faults.too_large.Goals as goal

pub returns : goal.returns
returns c =
    let row = c.args.row.now in
    any_from_yields_List (leb c.args.qubits) _ _ c.any.result c.any.ensures.ran (YieldsList-from_slice row cc) (λ x b q k. search (rules, tests))
    ∙ any_is (leb c.args.qubits) row
