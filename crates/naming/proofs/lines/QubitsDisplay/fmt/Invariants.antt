use Rattle.std.specs.Fmt.{HasWritten, IsPlainFormatter}
use Rattle.std.specs.List.{range_with_len, flat_map}
use Rattle.naming.specs.Lines.{qubit_line}
use Rattle.naming.proofs.lines.QubitsDisplay.fmt.Given as goal

abbrev pub invariant-loop-k : goal.invariant-loop-k
invariant-loop-k g l =
    IsPlainFormatter l.initial.f → HasWritten g.W.Write.write_str_gives l.initial.f (flat_map (qubit_line l.self.letter.now l.self.first l.self.width) (range_with_len 0 l.k)) l.f
