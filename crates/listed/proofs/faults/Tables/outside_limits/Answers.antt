use Rattle.std.proofs.Common.{rules, ◌≡◌, ◌∙◌}
use Rattle.listed.proofs.Chain.{limits_told, limits_are}
use Rattle.listed.proofs.faults.Tables.outside_limits.Goals as goal

pub returns-then-some_row : goal.returns-then-some_row
returns-then-some_row c =
    let told : c.if-len-gt256-2.value ≡ limits_told c.args.self.now.checks.now c.args.self.now.generators.now c.args.self.now.sides.now = search rules in
    told ∙ limits_are _ _ _

pub returns-else-some_row : goal.returns-else-some_row
returns-else-some_row c =
    let told : c.some_unsided.result ≡ limits_told c.args.self.now.checks.now c.args.self.now.generators.now c.args.self.now.sides.now = search rules in
    told ∙ limits_are _ _ _
