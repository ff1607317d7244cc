use Rattle.std.proofs.Common.{◌≡◌, cond, vec_items, arith}
use Rattle.std.specs.Vec.{with_items}
use Rattle.std.proofs.lemmas.Grind.{common_steps}
use Rattle.std.proofs.lemmas.List.{with_items_is}
use Rattle.table.specs.Columns.{holders_of}
use Rattle.upkeep.specs.Changed.{turned}
use Rattle.trial.proofs.Done.{code_of, changed_if, turned_if, is_done}
use Rattle.trial.proofs.trial.board.Board.finish.Goals as goal

pub returns-clause-does : goal.returns-clause-does
returns-clause-does c s =
    let b = c.args.self.now in
    let q = c.args.qubit in
    let flip = c.args.flip in
    let odd : vec_items (with_items b.odd c.turn.new.marks) ≡ cond flip (turned (holders_of (code_of b).checks q) (vec_items b.odd)) (vec_items b.odd) = grind (arith, common_steps, changed_if, with_items_is) in
    let flipped = turned_if (vec_items b.flipped) q flip c.index_mut.result.now (grind (arith, common_steps)) in
    is_done b _ _ _ q c.requires flip c.take_out.ensures.does flipped odd s
