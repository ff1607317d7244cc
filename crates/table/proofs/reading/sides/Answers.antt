use Rattle.std.proofs.Common.{◌≡◌, List, IfOk, ap, ◌∙◌, subst, arith, rules}
use Rattle.std.specs.List.{filter_map, range_with_len}
use Rattle.std.proofs.lemmas.Iterator.{YieldsList-from_range, items_from_collect}
use Rattle.std.proofs.lemmas.Iterator.Consumers.{YieldsList-from_filter_map}
use Rattle.terms.specs.declared.row.Side.{Side}
use Rattle.meaning.specs.Telling.{side}
use Rattle.table.proofs.Steps.{sides_told}
use Rattle.table.proofs.reading.sides.Goals as goal

pub returns : goal.returns
returns g c =
    let M = g.C.Code.meaning c.args.code.now in
    let n = c.qubits.result in
    let asked = YieldsList-from_range 0 n n c.filter_map.ensures.source (omega arith) in
    let told = items_from_collect c.collect.result c.collect.ensures.ran (YieldsList-from_filter_map _ (side M) asked c.filter_map.ensures.closure (λ x r q k. search rules)) in
    subst (λ (l : List Side). IfOk c.collect.result (λ v. v.items ≡ l)) (ap (λ n. filter_map (side M) (range_with_len 0 n)) c.qubits.ensures ∙ sides_told M) told
