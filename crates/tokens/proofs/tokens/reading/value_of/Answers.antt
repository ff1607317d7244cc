use Rattle.std.proofs.Common.{◌+◌, ◌*◌, sym, ◌∙◌, arith}
use Rattle.tokens.proofs.Digits.{digit_at, value_more, ten_more}
use Rattle.tokens.proofs.tokens.reading.value_of.Goals as goal

pub overflow_sub-b : goal.overflow_sub-b
overflow_sub-b c =
    let d = digit_at c.args.digits.now c.requires.digits c.loop-b.b-index (omega arith) in
    omega (arith, d.low)

pub loop-b-preserved : goal.loop-b-preserved
loop-b-preserved c =
    let l = c.args.digits.now in
    let i = c.loop-b.b-index in
    let d = digit_at l c.requires.digits i (omega arith) in
    record {
      value = (λ j. 10 * c.loop-b.invariant.value j + c.from.ensures j) ∙ sym (value_more l i (omega arith));
      low = omega (arith, ten_more i, d.low, d.high);
    }
