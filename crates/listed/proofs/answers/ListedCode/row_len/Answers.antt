use Rattle.listed.proofs.Limits.{row_fits}
use Rattle.listed.proofs.answers.ListedCode.row_len.Goals as goal

pub overflow_cast-result : goal.overflow_cast-result
overflow_cast-result c = row_fits _ _ _ c.in_ok-qubits.ensures.1
