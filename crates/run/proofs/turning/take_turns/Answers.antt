use Rattle.std.proofs.Common.{◌≡◌, ℕ, suc, ◌+◌, ◌-◌, Bool, false, List, length, sym, ap, ◌∙◌, subst, arith, rules}
use Rattle.std.proofs.lemmas.List.{length-map}
use Rattle.meaning.specs.Meaning.{qubits}
use Rattle.rules.specs.States.{State}
use Rattle.rules.specs.Run.{next, turns}
use Rattle.table.specs.OfTable.{meaning_of}
use Rattle.table.specs.declared.Table.{Table}
use Rattle.upkeep.specs.Statuses.{is_erased}
use Rattle.running.specs.Turning.{taken}
use Rattle.running.proofs.Turns.{turns_void, turns_idle, turns_more}
use Rattle.running.proofs.Numbered.{taken_number}
use Rattle.run.specs.Passed.{Passed}
use Rattle.run.proofs.Looked.{code}
use Rattle.run.proofs.turning.take_turns.Goals as goal

pub loop-turn-preserved : goal.loop-turn-preserved
loop-turn-preserved c =
    let M = code c.args.trial.now in
    let w = c.args.switches.sum in
    let y = c.args.scratch.now in
    let s = c.loop-turn.trial.state in
    let u = c.turn.new.trial.state in
    let n = qubits M in
    let i = c.loop-turn._turn in
    let alive : s.void ≡ false = search rules in
    let does = c.turn.ensures.does ∙ ap (λ (l : List ℕ). taken (code c.loop-turn.trial) s (next (code c.loop-turn.trial) w l s)) c.loop-turn.invariant.scratch ∙ ap (λ (x : Table). taken (meaning_of x) s (next (meaning_of x) w y s)) c.loop-turn.invariant.table in
    let done = ap (λ b. (b, u)) (sym c.if-not-turn.false) ∙ does in
    let long : length c.view.result.status.now ≡ n = sym (length-map c.view.result.status.now is_erased) ∙ ap (λ (x : State). length x.erased) c.view.ensures ∙ c.args.trial.now.sized.erased in
    let low : n - i ≡ suc (n - (i + 1)) = omega (arith, c.loop-turn-test.true, long) in
    record {
      leads = sym (turns_more M w y (n - (i + 1)) s u alive done) ∙ sym (ap (λ k. turns M w y k s) low) ∙ c.loop-turn.invariant.leads;
      table = c.turn.ensures.table ∙ c.loop-turn.invariant.table;
      shown = c.loop-turn.invariant.shown ∙ sym (ap (λ (r : Bool × State). r.1.number) does ∙ taken_number M s (next M w y s));
      scratch = c.turn.ensures.scratch ∙ c.loop-turn.invariant.scratch;
      passed = subst (λ (x : Table). Passed (meaning_of x) u c.turn.new.places) c.loop-turn.invariant.table c.turn.ensures.passed;
    }

pub returns-then-view-clause-does : goal.returns-then-view-clause-does
returns-then-view-clause-does c =
    let t = c.args.trial.now in
    let s = c.loop-turn.trial.state in
    let void = sym (ap (λ (x : State). x.void) c.view-in-loop-turn.ensures) ∙ c.if-view.true in
    sym (turns_void (code t) c.args.switches.sum c.args.scratch.now (qubits (code t) - c.loop-turn._turn) s void) ∙ c.loop-turn.invariant.leads

pub returns-then-not-turn-clause-does : goal.returns-then-not-turn-clause-does
returns-then-not-turn-clause-does c =
    let M = code c.args.trial.now in
    let w = c.args.switches.sum in
    let y = c.args.scratch.now in
    let s = c.loop-turn.trial.state in
    let u = c.turn.new.trial.state in
    let alive : s.void ≡ false = search rules in
    let does = c.turn.ensures.does ∙ ap (λ (l : List ℕ). taken (code c.loop-turn.trial) s (next (code c.loop-turn.trial) w l s)) c.loop-turn.invariant.scratch ∙ ap (λ (x : Table). taken (meaning_of x) s (next (meaning_of x) w y s)) c.loop-turn.invariant.table in
    sym (turns_idle M w y (qubits M - c.loop-turn._turn) s u alive (ap (λ b. (b, u)) (sym c.if-not-turn.true) ∙ does)) ∙ c.loop-turn.invariant.leads
