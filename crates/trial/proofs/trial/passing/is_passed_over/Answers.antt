use Rattle.std.proofs.Common.{◌<◌, ap, sym, ◌∙◌, subst, arith}
use Rattle.sets.proofs.Sets.{has_below}
use Rattle.meaning.specs.Meaning.{Meaning, qubits}
use Rattle.table.specs.OfTable.{meaning_of}
use Rattle.table.specs.declared.Table.{Table}
use Rattle.upkeep.specs.Statuses.{erased_of}
use Rattle.trial.proofs.Done.{long}
use Rattle.trial.proofs.Clusters.{Went, went, went_in}
use Rattle.trial.proofs.Passes.{several_passes, few_pass}
use Rattle.trial.proofs.trial.passing.is_passed_over.Goals as goal

pub returns-in-Several-clause-passes : goal.returns-in-Several-clause-passes
returns-in-Several-clause-passes c s on =
    let t = c.args.board.now.erasures.table.now in
    let M : Meaning = meaning_of t in
    let q = c.args.qubit in
    let l = c.args.scratch.now in
    let w : Went t c.as_slice-status.result.now c.args.closed.now q l c.in-Ok.connecting c.walk.new.self =
    subst (λ (x : Table). Went x c.as_slice-status.result.now c.args.closed.now q l c.in-Ok.connecting c.walk.new.self) c.requires.walks (went _ _ q l c.args.walker.now _ _ c.in-Ok.ensures.does) in
    let h = went_in t _ _ q l _ _ w s (ap erased_of c.as_slice-status.ensures.value ∙ sym on.erased) (sym on.closed) in
    let low : q < qubits M = omega (arith, has_below (erased_of c.args.board.now.erasures.status.items) q c.requires.erased, (long c.args.board.now s).erased) in
    several_passes M s s.number q l _ _ h low on.marked c.in-Several.is

pub returns-in-Several-clause-members : goal.returns-in-Several-clause-members
returns-in-Several-clause-members c _ s on =
    let t = c.args.board.now.erasures.table.now in
    let q = c.args.qubit in
    let l = c.args.scratch.now in
    let w : Went t c.as_slice-status.result.now c.args.closed.now q l c.in-Ok.connecting c.walk.new.self =
    subst (λ (x : Table). Went x c.as_slice-status.result.now c.args.closed.now q l c.in-Ok.connecting c.walk.new.self) c.requires.walks (went _ _ q l c.args.walker.now _ _ c.in-Ok.ensures.does) in
    (went_in t _ _ q l _ _ w s (ap erased_of c.as_slice-status.ensures.value ∙ sym on.erased) (sym on.closed)).members

pub returns : goal.returns
returns c =
    let t = c.args.board.now.erasures.table.now in
    let M : Meaning = meaning_of t in
    let q = c.args.qubit in
    let l = c.args.scratch.now in
    let before = went _ _ q l c.args.walker.now _ _ c.in-Ok.ensures.does in
    let w : Went t c.as_slice-status.result.now c.args.closed.now q l c.in-Ok.connecting c.walk.new.self =
    subst (λ (x : Table). Went x c.as_slice-status.result.now c.args.closed.now q l c.in-Ok.connecting c.walk.new.self) c.requires.walks before in
    record {
      passes = λ s on.
          let h = went_in t _ _ q l _ _ w s (ap erased_of c.as_slice-status.ensures.value ∙ sym on.erased) (sym on.closed) in
          let low : q < qubits M = omega (arith, has_below (erased_of c.args.board.now.erasures.status.items) q c.requires.erased, (long c.args.board.now s).erased) in
          few_pass M s s.number q l _ _ h low on.marked c.in_default-connecting.not-Several c.members.result.now c.members.ensures;
      members = λ _ s on. (went_in t _ _ q l _ _ w s (ap erased_of c.as_slice-status.ensures.value ∙ sym on.erased) (sym on.closed)).members;
      walks = before.table;
      scratch = c.walk.ensures.scratch;
    }
