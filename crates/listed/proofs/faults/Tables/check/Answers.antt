use Rattle.std.proofs.Common.{ap}
use Rattle.terms.specs.Answering.{checked}
use Rattle.listed.proofs.Chain.{fault_limits, fault_large, fault_twice, fault_law, fault_none}
use Rattle.listed.proofs.faults.Tables.check.Goals as goal

pub returns-then-outside_limits : goal.returns-then-outside_limits
returns-then-outside_limits c = ap checked (fault_limits _ _ _ c.if-outside_limits.ensures)

pub returns-then-some_too_large : goal.returns-then-some_too_large
returns-then-some_too_large c = ap checked (fault_large _ _ _ c.if-outside_limits.ensures c.if-some_too_large.ensures)

pub returns-then-some_repeats : goal.returns-then-some_repeats
returns-then-some_repeats c = ap checked (fault_twice _ _ _ c.if-outside_limits.ensures c.if-some_too_large.ensures c.if-some_repeats.ensures)

pub returns-then-law_fails : goal.returns-then-law_fails
returns-then-law_fails c = ap checked (fault_law _ _ _ c.if-outside_limits.ensures c.if-some_too_large.ensures c.if-some_repeats.ensures c.if-law_fails.ensures)

pub returns : goal.returns
returns c = ap checked (fault_none _ _ _ c.if-outside_limits.ensures c.if-some_too_large.ensures c.if-some_repeats.ensures c.if-law_fails.ensures)
