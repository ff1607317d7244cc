use Rattle.std.proofs.Common.{length, sym, ap, ◌∙◌}
use Rattle.sets.proofs.Numbers.{length_elements}
use Rattle.systems.proofs.Begun.{begun}
use Rattle.systems.proofs.System.new.Goals as goal

pub returns : goal.returns
returns c M k odds none o = begun _ M k odds 0 none (sym (length_elements 0 k) ∙ ap length none) o c.in_ok-new.ensures
