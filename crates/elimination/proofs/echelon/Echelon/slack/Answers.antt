use Rattle.std.proofs.Common.{rules, tests, ℕ, ◌∙◌, arith}
use Rattle.std.proofs.lemmas.Iterator.{YieldsList-from_range}
use Rattle.std.proofs.lemmas.Iterator.Consumers.{YieldsList-from_filter, count_from_yields_List}
use Rattle.std.proofs.lemmas.List.Sums.{length-filter}
use Rattle.std.specs.List.{range_with_len}
use Rattle.elimination.specs.Table.{is_free}
use Rattle.elimination.proofs.Held.{room_of}
use Rattle.elimination.proofs.Readings.{free_counted}
use Rattle.elimination.proofs.echelon.Echelon.slack.Goals as goal

pub returns-clause-counted : goal.returns-clause-counted
returns-clause-counted g c =
    let K = g.T.Value.field in
    let w : ℕ = c.args.self.now.width in
    let T = c.args.self.now.cells.items in
    count_from_yields_List c.filter.result c.count.result c.count.ensures.ran
    (YieldsList-from_filter _ (is_free K w T) (YieldsList-from_range 0 w w c.filter.ensures.source (omega arith)) c.filter.ensures.closure (λ x r q k. search (rules, tests)))
    ∙ length-filter (is_free K w T) (range_with_len 0 w)
    ∙ free_counted K w T (room_of c.args.self.now)
