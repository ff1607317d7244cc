use Rattle.std.proofs.Common.{Result, sym, ap, subst}
use Rattle.terms.specs.declared.refusal.Refusal.{Refusal}
use Rattle.rules.specs.States.{State}
use Rattle.rules.specs.Calls.{dangling}
use Rattle.running.proofs.Shrinking.{sweep_shrinks, Shrunk}
use Rattle.run.proofs.Looked.{code, generators_stay, none_below_zero}
use Rattle.run.proofs.finding.sweep_all.Goals as goal

pub returns-clause-passed : goal.returns-clause-passed
returns-clause-passed c =
    let t = c.args.trial.now in
    let u = c.sweep.new.self in
    let after = ap (λ (r : Result (Unit {0}) Refusal × State). r.1) c.sweep.ensures.does in
    record {
      checks = none_below_zero (dangling (code t) u.state);
      generators = generators_stay t u c.sweep.ensures.table c.args.places.now.generator (subst (λ (x : State). Shrunk (code t) t.state x) (sym after) (sweep_shrinks (code t) t.state c.args.slip.now.number)) c.requires.passed.generators;
    }
