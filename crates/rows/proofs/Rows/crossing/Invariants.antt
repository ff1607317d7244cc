use Rattle.std.proofs.Common.{◌≡◌, ◌≤◌, drop}
use Rattle.rows.specs.Crossing.{namers}
use Rattle.rows.proofs.Growing.{Filled}
use Rattle.rows.proofs.Marking.{counts, Marking}
use Rattle.rows.proofs.Rows.crossing.Given as goal

abbrev pub invariant-loop-q : goal.invariant-loop-q
invariant-loop-q l = Marking l.self l.count l.columns l.k l.q-index l.row l.ends.items l.places.items

abbrev pub invariant-loop-k : goal.invariant-loop-k
invariant-loop-k l =
    let k = l.k-iterator.a.start in
    Filled (counts l.self l.count l.columns) (λ q. namers l.self q k) l.ends.items l.places.items
    × (l.k-iterator.b ≡ drop k l.self)
    × (l.k-iterator.a.end ≡ l.count)
    × (k ≤ l.count)
