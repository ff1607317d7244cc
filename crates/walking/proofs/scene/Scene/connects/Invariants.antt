use Rattle.std.proofs.Common.{◌≡◌, ℕ, ◌<◌, false, get_or}
use Rattle.sets.specs.Sets.{has}
use Rattle.walking.specs.Scenes.{across}
use Rattle.walking.proofs.scene.Scene.connects.Given as goal

abbrev pub invariant-loop-q : goal.invariant-loop-q
invariant-loop-q l = (k : ℕ) → k < l.q-index → has (across l.self) (get_or l.q-items k 0) ≡ false
