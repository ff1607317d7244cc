use Rattle.std.proofs.Common.{◌≡◌, suc, ◌+◌, ◌-◌, length, Result, sym, ap, ◌∙◌, arith}
use Rattle.std.proofs.lemmas.List.{length-map}
use Rattle.terms.specs.declared.refusal.Refusal.{Refusal}
use Rattle.rules.specs.States.{State}
use Rattle.rules.specs.Calls.{settle}
use Rattle.rules.specs.Run.{settles}
use Rattle.table.specs.OfTable.{meaning_of}
use Rattle.table.specs.declared.Table.{Table}
use Rattle.running.proofs.Turns.{settles_end}
use Rattle.running.proofs.Numbered.{settle_number}
use Rattle.run.proofs.Looked.{code}
use Rattle.run.proofs.settling.settle_shelf.Goals as goal

pub loop-entry-preserved : goal.loop-entry-preserved
loop-entry-preserved c =
    let M = code c.args.trial.now in
    let s = c.loop-entry.trial.state in
    let n = length c.args.trial.now.state.shelf in
    let i = c.loop-entry._entry in
    let does = c.settle.ensures.does ∙ ap (λ (x : Table). settle (meaning_of x) s c.args.slip.now.number) c.loop-entry.invariant.table ∙ ap (settle M s) c.loop-entry.invariant.shown in
    let long : c.len-entry-end.result ≡ n = c.len-entry-end.ensures ∙ sym (length-map c.view.result.shelf.now.entries _) ∙ ap (λ (x : State). length x.shelf) c.view.ensures in
    let low : n - i ≡ suc (n - (i + 1)) = omega (arith, c.loop-entry-test.true, long) in
    let after = ap (λ (r : Result (Unit {0}) Refusal × State). r.1) does in
    record {
      leads = ap (settles M (n - (i + 1))) after ∙ sym (ap (λ k. settles M k s) low) ∙ c.loop-entry.invariant.leads;
      table = c.settle.ensures.table ∙ c.loop-entry.invariant.table;
      shown = c.loop-entry.invariant.shown ∙ sym (ap (λ (x : State). x.number) after ∙ settle_number M s s.number);
    }

pub returns-then-is_err-clause-does : goal.returns-then-is_err-clause-does
returns-then-is_err-clause-does c =
    let M = code c.args.trial.now in
    let s = c.loop-entry.trial.state in
    let does = c.settle.ensures.does ∙ ap (λ (x : Table). settle (meaning_of x) s c.args.slip.now.number) c.loop-entry.invariant.table ∙ ap (settle M s) c.loop-entry.invariant.shown in
    sym (settles_end M (length c.args.trial.now.state.shelf - c.loop-entry._entry) s c.settle.new.self.state c.settle.result (sym c.is_err.ensures.value ∙ c.if-is_err.true) does) ∙ c.loop-entry.invariant.leads
