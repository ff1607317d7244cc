use Rattle.std.proofs.Common.{◌≡◌, drop}
use Rattle.upkeep.specs.Changed.{changed}
use Rattle.marking.proofs.changing.change_each.Given as goal

-- what is left to change leads to the same end
abbrev pub invariant-loop-k : goal.invariant-loop-k
invariant-loop-k g l = (d : _) (f : _ → _) → ((x y : _) → goal.F-post g l.change x y → y ≡ f x) → changed d f (drop l.k-index l.places) l.list ≡ changed d f l.places l.initial.list
