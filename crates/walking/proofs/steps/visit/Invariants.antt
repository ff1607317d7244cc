use Rattle.std.proofs.Common.{◌≡◌, ℕ, ◌<◌, true, false, get_or, vec_items}
use Rattle.sets.specs.Sets.{has}
use Rattle.walking.specs.Scenes.{Going, WentOn}
use Rattle.walking.proofs.steps.visit.Given as goal

abbrev pub invariant-loop-c : goal.invariant-loop-c
invariant-loop-c l =
    record {
      walk : Going l.scene l.marks l.ground;
      onward : WentOn l.initial.marks l.initial.ground l.marks l.ground;
      visited : (k : ℕ) → k < l.c-index → has l.scene.closed.now (get_or l.c-items k 0) ≡ false → has (vec_items l.ground.met) (get_or l.c-items k 0) ≡ true;
      lender : l.marks.scratch.ghost_name ≡ l.initial.marks.scratch.ghost_name;
    }
