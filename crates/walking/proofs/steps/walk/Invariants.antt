use Rattle.std.proofs.Common.{◌≡◌, ℕ, ◌-◌, true, vec_items, vec_len}
use Rattle.sets.specs.Lists.{In}
use Rattle.marks.specs.Marks.{is_marked}
use Rattle.walking.specs.Scenes.{Going, IsVisited, SameBytes}
use Rattle.walking.proofs.steps.walk.Given as goal

abbrev pub invariant-loop-q : goal.invariant-loop-q
invariant-loop-q l =
    record {
      walk : Going l.scene l.marks l.ground;
      first : is_marked l.marks.qubits l.marks.scratch.now l.scene.start ≡ true;
      visited : (i : ℕ) → In i (vec_items l.ground.members) → IsVisited l.scene l.ground i;
      same : SameBytes l.fn.marks l.marks;
      lender : l.marks.scratch.ghost_name ≡ l.fn.marks.scratch.ghost_name;
    }

-- how many qubits are not visited yet
abbrev pub decreases-loop-q : goal.decreases-loop-q
decreases-loop-q l = l.marks.qubits - vec_len l.ground.members
