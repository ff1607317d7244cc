use Rattle.std.proofs.Common.{length, sym, ap, ◌∙◌, subst}
use Rattle.terms.specs.declared.refusal.Refusal.TheVariants.{SeveralConnecting}
use Rattle.terms.proofs.Answering.{answers_err}
use Rattle.meaning.specs.Meaning.{Meaning}
use Rattle.table.specs.OfTable.{meaning_of}
use Rattle.table.specs.declared.Table.{Table}
use Rattle.upkeep.specs.Statuses.{erased_of}
use Rattle.trial.specs.Clusters.{Met, FoundBy, solve_fault}
use Rattle.trial.proofs.Done.{long}
use Rattle.trial.proofs.Clusters.{Went, went, went_in, is_several, few, answers}
use Rattle.trial.proofs.trial.finding.find.Goals as goal

pub returns-in-Several-clause-found : goal.returns-in-Several-clause-found
returns-in-Several-clause-found c s on =
    let t = c.args.board.now.erasures.table.now in
    let M : Meaning = meaning_of t in
    let q = c.args.qubit in
    let l = c.args.scratch.now in
    let w : Went t c.as_slice-status.result.now c.args.closed.now q l c.in_ok-connecting.connecting c.walk.new.self =
    subst (λ (x : Table). Went x c.as_slice-status.result.now c.args.closed.now q l c.in_ok-connecting.connecting c.walk.new.self) c.requires.walks (went _ _ q l c.args.walker.now _ _ c.in_ok-connecting.ensures.does) in
    let h = went_in t _ _ q l _ _ w s (ap erased_of c.as_slice-status.ensures.value ∙ sym on.erased) (sym on.closed) in
    answers_err SeveralConnecting (solve_fault M s q l) _ (sym (is_several M s q l _ _ h c.requires.low on.live c.in-Several.is))

pub returns : goal.returns
returns c =
    let t = c.args.board.now.erasures.table.now in
    let M : Meaning = meaning_of t in
    let q = c.args.qubit in
    let l = c.args.scratch.now in
    let before = went _ _ q l c.args.walker.now _ _ c.in_ok-connecting.ensures.does in
    let w : Went t c.as_slice-status.result.now c.args.closed.now q l c.in_ok-connecting.connecting c.walk.new.self =
    subst (λ (x : Table). Went x c.as_slice-status.result.now c.args.closed.now q l c.in_ok-connecting.connecting c.walk.new.self) c.requires.walks before in
    record {
      found = λ s on.
          let h = went_in t _ _ q l _ _ w s (ap erased_of c.as_slice-status.ensures.value ∙ sym on.erased) (sym on.closed) in
          let met : Met M s q c.in_ok-connecting.connecting =
          record {
            erased = ap length on.erased ∙ (long c.args.board.now s).erased;
            closed = ap length on.closed ∙ c.requires.closed;
            odds = ap length on.odds ∙ c.args.board.now.odds;
            start = h.start;
            tells = h.tells;
            few = few M s q l _ _ h c.requires.low on.live c.in_default.not-Several;
          } in
          answers M s q l _ _ h c.requires.low on.live c.in_default.not-Several c.solve_cluster.result _ (FoundBy c.walk.new.self c.solve_cluster.new.system M s q) (c.solve_cluster.ensures s q on.odds met h.members h.inner)
          (λ o fits is. record { members = h.members; few = fits; start = h.start; found = is });
      walks = before.table;
      scratch = c.walk.ensures.scratch;
    }
