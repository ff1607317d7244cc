use Rattle.elimination_export.proofs.Reading.{Read}
use Rattle.elimination_export.proofs.solved.Given as goal

abbrev pub invariant-loop-word : goal.invariant-loop-word
invariant-loop-word l = Read l.unknowns l.checks l.word-index l.system
