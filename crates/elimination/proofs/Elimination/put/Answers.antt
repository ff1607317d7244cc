use Rattle.std.proofs.Common.{◌≡◌, ◌<◌, true, ltb, sym, ◌∙◌, arith, lt-ltb}
use Rattle.elimination.proofs.Held.{put_held}
use Rattle.elimination.proofs.Elimination.put.Goals as goal

pub returns-clause-put : goal.returns-clause-put
returns-clause-put g c n rows written h =
    let e = c.args.self.now in
    let lt : c.args.place < n = omega (arith, c.from-place.ensures, c.if-place-self.false, h.unknowns) in
    let q : ltb c.args.place n ≡ true = lt-ltb c.args.place n lt in
    rw q (record {
      unknowns = h.unknowns;
      stands = put_held g.T.Value.field e.echelon.width n rows written e.contradicts e.echelon.cells.items e.row.items h.unknowns h.stands
          c.args.place c.from-place.result c.index.result.now c.plus.result c.args.coefficient c.from-place.ensures c.if-place-self.false e.echelon.few (sym e.row.ok.0 ∙ e.rowed) c.index.ensures c.plus.ensures;
    })
