use Rattle.std.proofs.Common.{ℕ, ◌+◌, true, replicate, sym, ap, ◌∙◌, subst}
use Rattle.linear.specs.Field.{bits}
use Rattle.linear.specs.System.{solutions}
use Rattle.elimination.specs.Calls.{Power}
use Rattle.elimination_export.proofs.Reading.{Read, read_all, read_end, read_place}
use Rattle.elimination_export.proofs.solved.Goals as goal
use Rattle.elimination_export.proofs.solved.Goals.{then-word-lt-EVEN, else-word-lt-EVEN}

pub loop-word-preserved : goal.loop-word-preserved
loop-word-preserved c =
    let n : ℕ = c.args.unknowns in
    let all = c.args.checks.now in
    let i : ℕ = c.loop-word.word-index in
    let r = c.loop-word.invariant in
    elim c.if-word-lt-EVEN.branch [
      | then-word-lt-EVEN v ↦
          subst (Read n all (i + 1)) (sym v.system-is)
          (read_place n all i c.loop-word.system c.loop-word-test.true r v.put.new.self v.put.result v.if-word-lt-EVEN.true (v.put.ensures.put n r.rows r.written r.holds) v.put.ensures.kept)
      | else-word-lt-EVEN v ↦
          subst (Read n all (i + 1)) (sym v.system-is)
          (read_end n all i c.loop-word.system c.loop-word-test.true r v.add.new.self v.if-word-lt-EVEN.false (v.add.ensures n r.rows r.written r.holds))
    ]

pub returns-then-not-solve-clause-power : goal.returns-then-not-solve-clause-power
returns-then-not-solve-clause-power c =
    let n : ℕ = c.args.unknowns in
    let r = c.loop-word.invariant in
    sym (ap (solutions bits (replicate n true)) (read_all n c.args.checks.now c.loop-word.word-index c.loop-word.system c.loop-word-test.false r))
    ∙ (c.if-not-solve.ensures.first n r.rows r.written r.holds).1

pub returns-clause-power : goal.returns-clause-power
returns-clause-power c =
    let n : ℕ = c.args.unknowns in
    let r = c.loop-word.invariant in
    subst (λ rows. Power bits (solutions bits (replicate n true) rows) c.slack.result) (read_all n c.args.checks.now c.loop-word.word-index c.loop-word.system c.loop-word-test.false r)
    (c.slack.ensures.power n r.rows r.written (c.solve.ensures.first n r.rows r.written r.holds).0)
