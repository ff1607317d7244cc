use Rattle.std.proofs.Common.{◌&&◌, ◌||◌, eqb, get_or, take, sym, ap, ◌∙◌}
use Rattle.sets.proofs.Bits.{and_comm}
use Rattle.product.specs.Seed.{marked}
use Rattle.product.proofs.Seeds.{origin, marked_more, no_ones}
use Rattle.product.proofs.product.make.words.Goals as goal

pub loop-p-init : goal.loop-p-init
loop-p-init c = record { by_row = λ a b. no_ones 32 a b; by_column = λ a b. no_ones 32 b a }

pub loop-p-preserved : goal.loop-p-preserved
loop-p-preserved c =
    let l = c.args.ones.now in
    let i = c.loop-p.p-index in
    let p = get_or l i origin in
    record {
      by_row = λ a b. c.mark.ensures a b ∙ ap (λ t. (eqb a p.row && eqb b p.column) || t) (c.loop-p.invariant.by_row a b) ∙ sym (marked_more a b l i c.loop-p-test.true);
      by_column = λ a b. c.mark-in-loop-p.ensures b a
          ∙ ap (λ t. (eqb b p.column && eqb a p.row) || t) (c.loop-p.invariant.by_column a b)
          ∙ ap (λ t. t || marked a b (take i l)) (and_comm (eqb b p.column) (eqb a p.row))
          ∙ sym (marked_more a b l i c.loop-p-test.true);
    }
