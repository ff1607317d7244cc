use Rattle.std.proofs.Common.{◌≡◌, ◌<◌, ◌∷◌, ◌++◌, [], length, Option, ap, ◌∙◌, arith}
use Rattle.trial.specs.declared.slip.Slip.{Slip}
use Rattle.trial_tests.proofs.Popped.{own_last, left_rest}
use Rattle.trial_tests.proofs.trials.Trials.close_rest.Goals as goal

pub close_somewhere-requires-clause-own : goal.close_somewhere-requires-clause-own
close_somewhere-requires-clause-own c =
    let l = c.args.self.trials.items in
    let rest = c.pop.new.self.items in
    let e = c.in-Some.ensures.items ∙ ap (λ (x : Option Slip). rest ++ (x ∷ [])) c.in-Some-held.is in
    let k : c.len.result ≡ length rest = omega arith in
    let low : c.len.result < length l = omega (arith, c.loop-held.invariant.as_many, c.in-Some.ensures.cases) in
    own_last l c.loop-held.slips.items rest c.in-Some-held.slip c.index.result.now c.len.result e k low c.index.ensures c.loop-held.invariant.own

pub loop-held-preserved-in-Some-held : goal.loop-held-preserved-in-Some-held
loop-held-preserved-in-Some-held c =
    let e = c.in-Some.ensures.items ∙ ap (λ (x : Option Slip). c.pop.new.self.items ++ (x ∷ [])) c.in-Some-held.is in
    left_rest _ _ _ _ _ _ e c.close_somewhere.ensures c.loop-held.invariant

pub loop-held-preserved : goal.loop-held-preserved
loop-held-preserved c =
    let e = c.in-Some.ensures.items ∙ ap (λ (x : Option Slip). c.pop.new.self.items ++ (x ∷ [])) c.in_default-held.is in
    left_rest _ _ _ _ _ _ e (omega arith) c.loop-held.invariant
