use Rattle.std.proofs.Common.{length, ap, ◌∙◌}
use lib.ListN.{length-replicate}
use Rattle.elimination.proofs.echelon.Echelon.new.Goals as goal

pub invariant_of-result-clause-room : goal.invariant_of-result-clause-room
invariant_of-result-clause-room g c = c.in_ok-zeros.field-0.ok.0 ∙ ap length c.in_ok-zeros.ensures ∙ length-replicate 65792 g.T.Value.field.zer
