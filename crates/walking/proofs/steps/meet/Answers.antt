use Rattle.std.proofs.Common.{true, vec_items, refl, sym, ap, ◌∙◌, arith}
use Rattle.std.specs.Vec.{with_item}
use Rattle.sets.specs.Sets.{has}
use Rattle.walking.proofs.Onward.{still_touched}
use Rattle.walking.proofs.Walking.{internal_space, connecting_space, met_internal, met_connecting}
use Rattle.walking.proofs.steps.meet.Goals as goal

pub push_reserved-requires : goal.push_reserved-requires
push_reserved-requires c =
    let v = c.args.scene.now in
    let g = c.spread.new.ground in
    let w = c.spread.ensures.walk in
    let t = c.requires.touched in
    let fresh = ap (λ x. has (vec_items x) c.args.check) c.spread.ensures.same ∙ c.requires.fresh in
    let space = connecting_space v c.spread.new.marks.qubits c.spread.new.marks.scratch.now g w c.args.check t.qubit t.holds fresh in
    omega (arith, space, w.roomy.connecting, g.connecting.ok.0)

pub push_reserved-requires-else-connects : goal.push_reserved-requires-else-connects
push_reserved-requires-else-connects c =
    let v = c.args.scene.now in
    let g = c.spread.new.ground in
    let w = c.spread.ensures.walk in
    let t = c.requires.touched in
    let fresh = ap (λ x. has (vec_items x) c.args.check) c.spread.ensures.same ∙ c.requires.fresh in
    let space = internal_space v c.spread.new.marks.qubits c.spread.new.marks.scratch.now g w c.args.check t.qubit t.holds fresh in
    omega (arith, space, w.roomy.internal, g.internal.ok.0)

pub returns-then-connects-clause-walk : goal.returns-then-connects-clause-walk
returns-then-connects-clause-walk c =
    let v = c.args.scene.now in
    let g = c.spread.new.ground in
    let w = c.spread.ensures.walk in
    let t = still_touched _ _ _ _ _ _ _ _ c.spread.ensures.onward _ c.requires.touched in
    let fresh = ap (λ x. has (vec_items x) c.args.check) c.spread.ensures.same ∙ c.requires.fresh in
    let y = record g { connecting = c.push_reserved.new.self; met = with_item g.met c.args.check true } in
    met_connecting v c.spread.new.marks.qubits c.spread.new.marks.scratch.now g w c.args.check t c.spread.ensures.swept y refl fresh (sym c.connects.ensures ∙ c.if-connects.true) c.push_reserved.ensures.items c.push_reserved.ensures.capacity

pub returns-else-connects-clause-walk : goal.returns-else-connects-clause-walk
returns-else-connects-clause-walk c =
    let v = c.args.scene.now in
    let g = c.spread.new.ground in
    let w = c.spread.ensures.walk in
    let t = still_touched _ _ _ _ _ _ _ _ c.spread.ensures.onward _ c.requires.touched in
    let fresh = ap (λ x. has (vec_items x) c.args.check) c.spread.ensures.same ∙ c.requires.fresh in
    let y = record g { internal = c.push_reserved-else-connects.new.self; met = with_item g.met c.args.check true } in
    met_internal v c.spread.new.marks.qubits c.spread.new.marks.scratch.now g w c.args.check t c.spread.ensures.swept y refl fresh (sym c.connects.ensures ∙ c.if-connects.false) c.push_reserved-else-connects.ensures.items c.push_reserved-else-connects.ensures.capacity
