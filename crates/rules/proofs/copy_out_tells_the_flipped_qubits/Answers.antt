use Rattle.rules.proofs.Copied.{copies_out}
use Rattle.rules.proofs.copy_out_tells_the_flipped_qubits.Goals as goal

pub returns : goal.returns
returns c = copies_out
