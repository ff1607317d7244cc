use Rattle.std.proofs.Common.{◌≡◌, [], ◌∷◌, ◌++◌, take, length, sym, ap, ◌∙◌, arith}
use Rattle.std.specs.Prelude.{slice_get}
use Rattle.shelf.specs.Shelving.{Shelving}
use Rattle.shelf.proofs.Stacks.{topped, stacked_below, no_top, at_place, past_place}
use Rattle.shelf.proofs.Shelf.get.Goals as goal

pub loop-init : goal.loop-init
loop-init c = record { stacked = c.self.invariant; left = ap (λ (v : Shelving). v.entries) c.self.view_is }

pub returns-in_err-top : goal.returns-in_err-top
returns-in_err-top c =
    let s = c.self.inside in
    let none = no_top s.records.items c.loop.height s.members.items c.loop.end (length c.deref.result.now) c.loop.invariant.stacked (sym (ap length c.deref.ensures.value)) c.in_err-top.ensures.test in
    rw c.from_residual.ensures (past_place c.loop.counter c.args.self.now.entries (none ∙ c.loop.invariant.left) c.args.newer (omega (arith, c.loop-test.true)))

pub overflow_sub-end : goal.overflow_sub-end
overflow_sub-end c =
    let s = c.self.inside in
    let held : take c.loop.height s.records.items ≡ take c.pop.new.len s.records.items ++ c.in_ok-top.top ∷ [] = rw c.deref.ensures.value at c.in_ok-top.ensures.held in
    omega (arith, (stacked_below s.records.items c.loop.height c.pop.new.len s.members.items c.loop.end c.in_ok-top.top c.loop.invariant.stacked held (omega (arith, c.pop.ensures.size))).1, c.from-end.ensures)

pub loop-preserved : goal.loop-preserved
loop-preserved c =
    let s = c.self.inside in
    let held : take c.loop.height s.records.items ≡ take c.pop.new.len s.records.items ++ c.in_ok-top.top ∷ [] = rw c.deref.ensures.value at c.in_ok-top.ensures.held in
    let below = stacked_below s.records.items c.loop.height c.pop.new.len s.members.items c.loop.end c.in_ok-top.top c.loop.invariant.stacked held (omega (arith, c.pop.ensures.size)) in
    let top = topped s.records.items c.loop.height c.pop.new.len s.members.items c.loop.end c.in_ok-top.top c.loop.invariant.stacked held in
    rw c.from-end.ensures record { stacked = below.0; left = (at_place c.loop.counter c.args.self.now.entries _ _ (sym top ∙ c.loop.invariant.left)).1 }

pub returns-in_err-top-2 : goal.returns-in_err-top-2
returns-in_err-top-2 c =
    let s = c.self.inside in
    let none = no_top s.records.items c.loop.height s.members.items c.loop.end (length c.deref-2.result.now) c.loop.invariant.stacked (sym (ap length c.deref-2.ensures.value)) c.in_err-top-2.ensures.test in
    rw c.from_residual-in_err-top-2.ensures (past_place c.loop.counter c.args.self.now.entries (none ∙ c.loop.invariant.left) c.args.newer c.loop.auto.counter-end)

pub overflow_sub-start : goal.overflow_sub-start
overflow_sub-start c =
    let s = c.self.inside in
    let held : take c.loop.height s.records.items ≡ take c.pop-2.new.len s.records.items ++ c.in_ok-top-2.top ∷ [] = rw c.deref-2.ensures.value at c.in_ok-top-2.ensures.held in
    omega (arith, (stacked_below s.records.items c.loop.height c.pop-2.new.len s.members.items c.loop.end c.in_ok-top-2.top c.loop.invariant.stacked held (omega (arith, c.pop-2.ensures.size))).1, c.from.ensures)

pub returns : goal.returns
returns c =
    let s = c.self.inside in
    let held : take c.loop.height s.records.items ≡ take c.pop-2.new.len s.records.items ++ c.in_ok-top-2.top ∷ [] = rw c.deref-2.ensures.value at c.in_ok-top-2.ensures.held in
    let top = topped s.records.items c.loop.height c.pop-2.new.len s.members.items c.loop.end c.in_ok-top-2.top c.loop.invariant.stacked held in
    let all : c.loop.counter ≡ c.args.newer = omega (arith, c.loop.auto.counter-end, c.loop-test.false) in
    rw (c.deref-3.ensures.value, c.from.ensures) ((at_place c.loop.counter c.args.self.now.entries _ _ (sym top ∙ c.loop.invariant.left)).0 ∙ ap (slice_get c.args.self.now.entries) all)
