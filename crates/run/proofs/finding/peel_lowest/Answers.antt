use Rattle.std.proofs.Common.{ℕ, true, length, Some, None, Result, sym, ap, ◌∙◌, subst}
use Rattle.terms.specs.declared.refusal.Refusal.{Refusal}
use Rattle.rules.specs.States.{State}
use Rattle.rules.specs.Calls.{dangling, peel}
use Rattle.rules.specs.CallLists.{Peel}
use Rattle.running.specs.Turning.{taken}
use Rattle.running.specs.Finding.{NoneBelow}
use Rattle.running.proofs.Lowest.{call_found, none_below}
use Rattle.running.proofs.Dangling.{peel_stays}
use Rattle.running.proofs.Shrinking.{peel_shrinks, Shrunk}
use Rattle.run.specs.Passed.{Passed}
use Rattle.run.proofs.Looked.{code, none_dangling, generators_stay, after_peel}
use Rattle.run.proofs.finding.peel_lowest.Goals as goal

pub returns-in_default-clause-does : goal.returns-in_default-clause-does
returns-in_default-clause-does c =
    let t = c.args.trial.now in
    let s = t.state in
    sym (ap (taken (code t) s) (call_found (dangling (code t) s) (λ k. Peel s.number k) c.args.places.now.check (length (code t).checks) None c.requires.passed.checks (sym c.in_default.is ∙ c.dangling_from.ensures)))

pub returns-in_default-clause-passed : goal.returns-in_default-clause-passed
returns-in_default-clause-passed c =
    let t = c.args.trial.now in
    record {
      checks = none_dangling (code t) t.state c.args.places.now.check c.requires.passed.checks (sym c.in_default.is ∙ c.dangling_from.ensures) 65535;
      generators = c.requires.passed.generators;
    }

pub returns-in-Ok-clause-does : goal.returns-in-Ok-clause-does
returns-in-Ok-clause-does c =
    let t = c.args.trial.now in
    let s = t.state in
    let k = c.in-Some.check in
    ap (λ (r : Result ℕ Refusal × State). (true, r.1)) (c.peel.ensures.does ∙ ap (λ n. peel (code t) s n k) c.requires.shown)
    ∙ sym (ap (taken (code t) s) (call_found (dangling (code t) s) (λ k. Peel s.number k) c.args.places.now.check (length (code t).checks) (Some k) c.requires.passed.checks (sym c.in-Some.is ∙ c.dangling_from.ensures)))

pub returns-in_default-peel-clause-does : goal.returns-in_default-peel-clause-does
returns-in_default-peel-clause-does c =
    let t = c.args.trial.now in
    let s = t.state in
    let k = c.in-Some.check in
    ap (λ (r : Result ℕ Refusal × State). (true, r.1)) (c.peel.ensures.does ∙ ap (λ n. peel (code t) s n k) c.requires.shown)
    ∙ sym (ap (taken (code t) s) (call_found (dangling (code t) s) (λ k. Peel s.number k) c.args.places.now.check (length (code t).checks) (Some k) c.requires.passed.checks (sym c.in-Some.is ∙ c.dangling_from.ensures)))

pub returns-in-Ok-clause-passed : goal.returns-in-Ok-clause-passed
returns-in-Ok-clause-passed c =
    let t = c.args.trial.now in
    let u = c.peel.new.self in
    let slip = c.args.slip.now.number in
    let k = c.in-Some.check in
    let behind = none_below (dangling (code t) t.state) (length (code t).checks) c.args.places.now.check k c.requires.passed.checks (sym c.dangling_from.ensures ∙ c.in-Some.is) in
    let new = after_peel t u c.peel.ensures.table slip k c.in-Ok.qubit k c.dangling_at.result c.peel.result c.peel.ensures.does c.in-Ok.is behind c.dangling_at.ensures in
    record {
      checks = subst (λ n. NoneBelow (dangling (code t) u.state) n) (sym c.back_to-places.ensures) new;
      generators =
          generators_stay t u c.peel.ensures.table c.args.places.now.generator
          (subst (λ (x : State). Shrunk (code t) t.state x) (sym (ap (λ (r : Result ℕ Refusal × State). r.1) c.peel.ensures.does)) (peel_shrinks (code t) t.state slip k)) c.requires.passed.generators;
    }

pub returns-in_default-peel-clause-passed : goal.returns-in_default-peel-clause-passed
returns-in_default-peel-clause-passed c =
    let t = c.args.trial.now in
    let k = c.in-Some.check in
    let behind = none_below (dangling (code t) t.state) (length (code t).checks) c.args.places.now.check k c.requires.passed.checks (sym c.dangling_from.ensures ∙ c.in-Some.is) in
    let stays = peel_stays (code t) t.state c.args.slip.now.number k c.peel.result c.peel.new.self.state c.peel.ensures.does c.in_default-peel.not-Ok in
    subst (λ (x : State). Passed (code t) x (record { check = k; generator = c.args.places.now.generator })) (sym stays) (record { checks = behind; generators = c.requires.passed.generators })
