use Rattle.std.proofs.Common.{◌≡◌, ◌-◌, [], ◌∷◌, ◌++◌, take, refl, arith}
use Rattle.shelf.proofs.Stacks.{topped}
use Rattle.shelf.proofs.Shelf.drop_newest.Goals as goal

pub returns-after-loop : goal.returns-after-loop
returns-after-loop c =
    let s = c.self.inside in
    let held : take s.height s.records.items ≡ take c.pop.new.len s.records.items ++ c.in-Some.top ∷ [] = rw c.deref.ensures.value at c.in-Some.ensures.held in
    let top = topped s.records.items s.height c.pop.new.len s.members.items s.filled c.in-Some.top c.self.invariant held in
    let left : c.loop.self-inside.filled ≡ s.filled - c.in-Some.top.count = omega arith in
    rw (← c.self.view_is, c.loop.invariant.members, c.loop.invariant.records, c.loop.invariant.height, left, top) refl
