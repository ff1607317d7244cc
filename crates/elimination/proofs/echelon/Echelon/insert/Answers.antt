use Rattle.std.proofs.Common.{◌≡◌, ℕ, ◌+◌, ◌-◌, ◌*◌, ◌≤◌, map, length, sym, ap, ◌∙◌, subst, arith}
use borrow.Rule.Slice.PartMut.{put_mid}
use Rattle.std.proofs.lemmas.List.{with_items_is}
use Rattle.elimination.specs.Inserted.{Inserted}
use Rattle.elimination.specs.declared.echelon.Added.TheVariants.{Grown}
use Rattle.elimination.proofs.Lists.{length_put_mid}
use Rattle.elimination.proofs.Held.{room_of}
use Rattle.elimination.proofs.Steps.{fits, grown_inserted, clash_inserted, known_inserted}
use Rattle.elimination.proofs.echelon.Echelon.insert.Goals as goal

pub returns-then-is_zero-clause-inserted : goal.returns-then-is_zero-clause-inserted
returns-then-is_zero-clause-inserted g c =
    let all : c.args.self.now.width ≤ c.args.self.now.width = omega arith in
    known_inserted g.T.Value.field c.args.self.now.width c.args.self.now.cells.items c.args.row.now c.reduce.new.row c.args.self.now.width all (c.reduce.auto.row ∙ c.requires) c.in_default.ensures.reduced
    c.index-row-0.result c.index-row-0.is (sym c.is_zero.ensures ∙ c.if-is_zero.true)

pub returns-else-is_zero-clause-inserted : goal.returns-else-is_zero-clause-inserted
returns-else-is_zero-clause-inserted g c =
    let all : c.args.self.now.width ≤ c.args.self.now.width = omega arith in
    clash_inserted g.T.Value.field c.args.self.now.width c.args.self.now.cells.items c.args.row.now c.reduce.new.row c.args.self.now.width all (c.reduce.auto.row ∙ c.requires) c.in_default.ensures.reduced
    c.index-row-0.result c.index-row-0.is (sym c.is_zero.ensures ∙ c.if-is_zero.false)

pub returns-clause-inserted : goal.returns-clause-inserted
returns-clause-inserted g c =
    let K = g.T.Value.field in
    let w : ℕ = c.args.self.now.width in
    let T = c.args.self.now.cells.items in
    let j : ℕ = c.in-Some.j in
    let k : (j * (w + 1) + (w + 1)) - j * (w + 1) ≡ w + 1 = omega arith in
    let i = grown_inserted K w T j (room_of c.args.self.now) c.in-Some.ensures.below c.args.row.now c.reduce.new.row (c.reduce.auto.row ∙ c.requires) c.in-Some.ensures.reduced
    c.index-row-j.result c.scale.new.row c.copy_from_slice.new.self ((j * (w + 1) + (w + 1)) - j * (w + 1)) c.index-row-j.is
    (c.scale.ensures ∙ ap (λ k. map (K.mul k) c.reduce.new.row) c.inverse.ensures) c.copy_from_slice.ensures.after k in
    let fit : c.in-Some.j * (c.args.self.now.width + 1) ≤ length c.deref_mut.result.now =
    omega (arith, fits c.args.self.now.width c.in-Some.j c.in-Some.ensures.below, room_of c.args.self.now, ap length c.deref_mut.ensures.value) in
    let l = length_put_mid (j * (w + 1)) ((j * (w + 1) + (w + 1)) - j * (w + 1)) c.deref_mut.result.now c.copy_from_slice.new.self fit c.copy_from_slice.auto.self ∙ c.deref_mut.ensures.len in
    subst (Inserted K w T c.args.row.now Grown)
    (ap (λ t. put_mid (j * (w + 1)) ((j * (w + 1) + (w + 1)) - j * (w + 1)) t c.copy_from_slice.new.self) (sym c.deref_mut.ensures.value)
    ∙ sym (with_items_is c.args.self.now.cells (put_mid (j * (w + 1)) ((j * (w + 1) + (w + 1)) - j * (w + 1)) c.deref_mut.result.now c.copy_from_slice.new.self) l))
    i
