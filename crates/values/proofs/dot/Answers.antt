use Rattle.std.proofs.Common.{rules, tests, ap, ◌∙◌}
use Rattle.std.proofs.lemmas.Iterator.{YieldsList-from_slice, YieldsList-from_zip}
use Rattle.std.proofs.lemmas.Iterator.Consumers.{fold_from_yields_List}
use Rattle.values.proofs.Sums.{fold_is_dot}
use Rattle.values.proofs.dot.Goals as goal

pub returns-clause-sum : goal.returns-clause-sum
returns-clause-sum g c e =
    let K = g.T.Value.field in
    fold_from_yields_List _ (λ s p. K.add s (K.mul p.0 p.1)) c.zero-2.result c.fold.result c.fold.ensures.ran
    (YieldsList-from_zip (YieldsList-from_slice c.args.a.now (ap (λ i. i.rest.now) c.zip.ensures.first ∙ c.iter.ensures.rest)) (YieldsList-from_slice c.args.x.now c.zip.ensures.second.0))
    (λ s x b q k. search (rules, tests))
    ∙ fold_is_dot K c.zero-2.result c.args.a.now c.args.x.now e c.zero-2.ensures
