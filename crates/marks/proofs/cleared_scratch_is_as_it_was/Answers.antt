use Rattle.marks.proofs.Restored.{restores}
use Rattle.marks.proofs.cleared_scratch_is_as_it_was.Goals as goal

pub returns : goal.returns
returns c = restores
