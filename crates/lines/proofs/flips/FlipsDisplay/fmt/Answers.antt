use Rattle.std.proofs.Common.{◌≡◌, ◌++◌, [], codes, sym, ◌∙◌, subst, arith, rules, eq-eqb, ne_eqb, append_assoc}
use Rattle.std.specs.Fmt.{HasWritten}
use Rattle.std.proofs.Output.{has_written_append, has_written_of_eq}
use Rattle.naming.specs.Lines.{name}
use Rattle.lines.proofs.Begun.{none_yet, flipped_more, other_more, all_written}
use Rattle.lines.proofs.flips.FlipsDisplay.fmt.Goals as goal
use Rattle.lines.proofs.flips.FlipsDisplay.fmt.Goals.{then-flipped-eq1+in_ok-write, else-flipped-eq1}

pub loop-qubit-init : goal.loop-qubit-init
loop-qubit-init g c = let f = c.args.self.now in ([], none_yet f.sizes.rows f.sizes.columns f.bytes.now, search rules)

pub loop-qubit-preserved : goal.loop-qubit-preserved
loop-qubit-preserved g c =
    let f = c.args.self.now in
    let q = c.loop-qubit.qubit in
    let (text, begun, written) = c.loop-qubit.invariant in
    elim c.if-flipped-eq1.branch [
      | then-flipped-eq1+in_ok-write w ↦
          (let n = w.name_of-name.result in
          let more = name n.word.now n.x n.y n.number [] ++ codes "\n" in
          let is : more ≡ name n.word.now n.x n.y n.number (codes "\n") = simp append_assoc in (
            text ++ more,
            flipped_more f.sizes.rows f.sizes.columns q f.bytes.now text more begun (omega arith) (eq-eqb _ _ w.if-flipped-eq1.true) (is ∙ w.name_of-name.ensures),
            λ p. subst (HasWritten g.W.Write.write_str_gives c.args.f.now (text ++ more)) (sym w.f-is) (has_written_append _ _ _ _ more _ (written p) (search rules)),
          ))
      | else-flipped-eq1 w ↦ (
        text,
        other_more f.sizes.rows f.sizes.columns q f.bytes.now text begun (omega arith) (ne_eqb _ _ w.if-flipped-eq1.false),
        λ p. subst (HasWritten g.W.Write.write_str_gives c.args.f.now text) (sym w.f-is) (written p),
      )
    ]

pub returns-clause-writes : goal.returns-clause-writes
returns-clause-writes g c p _ =
    let f = c.args.self.now in
    let (text, begun, written) = c.loop-qubit.invariant in
    has_written_of_eq _ _ _ _ _ (all_written f.sizes.rows f.sizes.columns c.loop-qubit.qubit f.bytes.now text begun (omega arith)) (written p)
