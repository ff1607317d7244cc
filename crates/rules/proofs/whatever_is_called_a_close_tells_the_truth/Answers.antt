use Rattle.rules.proofs.Law.{law, law_after}
use Rattle.rules.proofs.whatever_is_called_a_close_tells_the_truth.Goals as goal

pub returns : goal.returns
returns c = record { listed = law; following = law_after }
