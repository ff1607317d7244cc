use Rattle.std.proofs.Common.{◌+◌, ◌<◌, length, get_or, ap, ◌∙◌, ap₂, add-one, arith}
use Rattle.std.proofs.lemmas.List.{get_or_read}
use Rattle.elimination.proofs.echelon.Echelon.is_free.Goals as goal

pub returns : goal.returns
returns g c =
    let K = g.T.Value.field in
    let h : c.args.j + 1 < length c.row.result.now = omega (arith, c.row.ensures.long) in
    c.is_zero.ensures ∙ ap (λ x. K.is x K.zer) (get_or_read c.row.result.now (c.args.j + 1) c.index-row-j.result h c.index-row-j.is K.zer ∙ ap₂ (λ t i. get_or t i K.zer) c.row.ensures.cells (add-one c.args.j))
