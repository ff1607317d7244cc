use Rattle.std.proofs.Common.{ℕ, List}
use Rattle.std.specs.Fmt.{HasWritten, IsPlainFormatter}
use Rattle.lines.proofs.Begun.{Begun}
use Rattle.lines.proofs.flips.FlipsDisplay.fmt.Given as goal

abbrev pub invariant-loop-qubit : goal.invariant-loop-qubit
invariant-loop-qubit g l =
    (text : List ℕ) × Begun l.self.sizes.rows l.self.sizes.columns l.qubit l.self.bytes.now text × (IsPlainFormatter l.initial.f → HasWritten g.W.Write.write_str_gives l.initial.f text l.f)
