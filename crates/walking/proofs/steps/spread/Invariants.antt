use Rattle.std.proofs.Common.{◌≡◌, ℕ, ◌<◌, true, get_or}
use Rattle.sets.specs.Sets.{has}
use Rattle.marks.specs.Marks.{is_marked}
use Rattle.walking.specs.Scenes.{beside, Going, WentOn}
use Rattle.walking.proofs.steps.spread.Given as goal

abbrev pub invariant-loop-q : goal.invariant-loop-q
invariant-loop-q l =
    record {
      walk : Going l.scene l.marks l.ground;
      onward : WentOn l.initial.marks l.initial.ground l.marks l.ground;
      same : l.ground.met ≡ l.initial.ground.met;
      swept : (k : ℕ) → k < l.q-index → has (beside l.scene) (get_or l.q-items k 0) ≡ true → is_marked l.marks.qubits l.marks.scratch.now (get_or l.q-items k 0) ≡ true;
      lender : l.marks.scratch.ghost_name ≡ l.initial.marks.scratch.ghost_name;
    }
