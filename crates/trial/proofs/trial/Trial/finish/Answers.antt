use Rattle.std.proofs.Common.{cond, refl, ap, ◌∙◌}
use Rattle.sets.specs.Sets.{only, empty}
use Rattle.meaning.specs.Meaning.{qubits}
use Rattle.rules.specs.States.{finish}
use Rattle.trial.specs.Standing.{Standing}
use Rattle.trial.specs.Seen.{standing_of}
use Rattle.trial.proofs.Done.{code, still_sized, still_equipped}
use Rattle.trial.proofs.trial.Trial.finish.Goals as goal

pub invariant_of-self-inside : goal.invariant_of-self-inside
invariant_of-self-inside c =
    let t = c.self.inside in
    (still_sized t c.finish.new.self _ _ c.finish.ensures.table (c.finish.ensures.does (standing_of t).state), (still_equipped _ _ _ _ _ _ _ c.finish.ensures.table refl refl t.equipped, tt))

pub returns-clause-does : goal.returns-clause-does
returns-clause-does c =
    let t = c.self.inside in
    c.finish.ensures.does (standing_of t).state ∙ ap (λ (x : Standing). finish (code x) (only (qubits (code x)) c.args.qubit) (cond c.args.flip (only (qubits (code x)) c.args.qubit) (empty (qubits (code x)))) x.state) c.self.view_is
