use Rattle.std.proofs.Common.{◌+◌, ◌/◌, ◌%◌, [], ◌++◌, codes, append_assoc, rules}
use Rattle.std.proofs.Output.{has_written_append, has_written_of_eq}
use Rattle.naming.specs.Lines.{name, qubit_line}
use Rattle.naming.proofs.Joins.{joined_counting_more}
use Rattle.naming.proofs.lines.QubitsDisplay.fmt.Goals as goal

pub loop-k-preserved : goal.loop-k-preserved
loop-k-preserved g c p =
    let q = c.args.self.now in
    let k = c.loop-k.k in
    let text = name q.letter.now (k / q.width) (k % q.width) (q.first + k) [] ++ codes "\n" in
    has_written_of_eq _ _ _ _ _ (joined_counting_more (qubit_line q.letter.now q.first q.width) k text (simp append_assoc)) (has_written_append _ _ _ _ text _ (c.loop-k.invariant p) (search rules))
