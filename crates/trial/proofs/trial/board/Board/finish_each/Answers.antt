use Rattle.std.proofs.Common.{◌≡◌, ◌+◌, drop, get_or, sym, ap, ◌∙◌, arith, rules, tests}
use Rattle.std.proofs.lemmas.List.{drop_all}
use Rattle.sets.specs.Sets.{has}
use Rattle.meaning.specs.Meaning.{qubits}
use Rattle.table.specs.OfTable.{meaning_of}
use Rattle.table.specs.declared.Table.{Table}
use Rattle.upkeep.proofs.Every.{each, each_step, each_is}
use Rattle.upkeep.proofs.Opened.{past_at}
use Rattle.rules.specs.States.{State}
use Rattle.trial.specs.Boards.{on_board, one_done}
use Rattle.trial.proofs.Done.{code_of, long}
use Rattle.trial.proofs.trial.board.Board.finish_each.Goals as goal

pub finish-requires : goal.finish-requires
finish-requires c =
    let low = past_at (qubits (code_of c.args.self.now)) c.args.list.now c.requires c.loop-place.place c.loop-place-test.true in
    let same = ap (λ (t : Table). qubits (meaning_of t)) c.loop-place.invariant.table in
    omega (arith, low, same)

pub loop-place-preserved : goal.loop-place-preserved
loop-place-preserved c =
    let i = c.loop-place.place in
    let M = code_of c.args.self.now in
    let flip : c.eq-flip.result ≡ has c.args.flips.now i = search (rules, tests) in
    record {
      table = c.finish.ensures.table ∙ c.loop-place.invariant.table;
      does = λ s.
          ap (λ (x : State). each M (drop (i + 1) c.args.list.now) (drop (i + 1) c.args.flips.now) x)
          (c.finish.ensures.does s ∙ ap (λ (t : Table). one_done (meaning_of t) (get_or c.args.list.now i 0) c.eq-flip.result (on_board c.loop-place.self s)) c.loop-place.invariant.table
          ∙ ap (λ f. one_done M (get_or c.args.list.now i 0) f (on_board c.loop-place.self s)) flip)
          ∙ each_step M i c.args.list.now c.args.flips.now (on_board c.loop-place.self s) c.loop-place-test.true
          ∙ c.loop-place.invariant.does s;
    }

pub returns-clause-does : goal.returns-clause-does
returns-clause-does c k long_k is s =
    let M = code_of c.args.self.now in
    let i = c.loop-place.place in
    ap (λ l. each M l (drop i c.args.flips.now) (on_board c.loop-place.self s)) (sym (drop_all i c.args.list.now c.loop-place-test.false))
    ∙ c.loop-place.invariant.does s
    ∙ ap (λ l. each M l c.args.flips.now (on_board c.args.self.now s)) (sym is)
    ∙ each_is M k c.args.flips.now (on_board c.args.self.now s) (long c.args.self.now s) long_k
