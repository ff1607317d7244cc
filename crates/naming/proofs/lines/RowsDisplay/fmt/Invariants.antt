use Rattle.std.specs.Fmt.{HasWritten, IsPlainFormatter}
use Rattle.std.specs.List.{range_with_len, flat_map}
use Rattle.naming.specs.Lines.{row_line}
use Rattle.naming.proofs.lines.RowsDisplay.fmt.Given as goal

abbrev pub invariant-loop-k : goal.invariant-loop-k
invariant-loop-k g l =
    IsPlainFormatter l.initial.f → HasWritten g.W.Write.write_str_gives l.initial.f (flat_map (row_line (g.C.Code.told l.self.code.now) l.self.kind l.self.line) (range_with_len 0 l.k)) l.f
