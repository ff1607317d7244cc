use Rattle.std.proofs.Common.{ap, ◌∙◌}
use Rattle.linear.specs.Basis.{slack}
use Rattle.elimination.specs.Table.{basis_of}
use Rattle.elimination.proofs.Answers.{none_left, power_is}
use Rattle.elimination.proofs.Elimination.slack.Goals as goal

pub returns-then-self-clause-power : goal.returns-then-self-clause-power
returns-then-self-clause-power g c n rows written h = none_left g.T.Value.field n rows written _ _ _ c.if-self.true h.stands

pub returns-clause-power : goal.returns-clause-power
returns-clause-power g c n rows written h =
    power_is g.T.Value.field n rows written _ _ _ c.slack.result c.if-self.false h.stands
    (c.slack.ensures.counted ∙ ap (λ m. slack (basis_of g.T.Value.field m c.args.self.now.echelon.cells.items)) h.unknowns)
