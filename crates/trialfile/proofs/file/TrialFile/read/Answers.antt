use Rattle.std.proofs.Common.{sym, ◌∙◌, ap}
use Rattle.tokens.specs.Tokens.{all_of}
use Rattle.trialfile.specs.Contents.{contents}
use Rattle.trialfile.proofs.Within.{contents_within}
use Rattle.trialfile.proofs.file.TrialFile.read.Goals as goal

pub returns-clause-within : goal.returns-clause-within
returns-clause-within c = contents_within (all_of c.args.file.now) _ (sym (c.in_ok-contents.ensures ∙ ap contents c.of.ensures))
