use Rattle.std.proofs.Common.{ℕ, ◌+◌, Option, Some, List, set, take, sym, ap, ◌∙◌, subst, arith}
use Rattle.std.proofs.lemmas.List.{take_all}
use Rattle.systems.specs.Places.{Placed}
use Rattle.systems.proofs.Standing.{placed_none, placed_more, placed_past}
use Rattle.systems.proofs.placing.place_each.Goals as goal
use Rattle.systems.proofs.placing.place_each.Goals.{then-q-places, else-q-places}

pub loop-place-init : goal.loop-place-init
loop-place-init c = placed_none c.args.places.now c.requires.none

pub loop-place-preserved : goal.loop-place-preserved
loop-place-preserved c =
    let l = c.args.qubits.now in
    let i : ℕ = c.loop-place.place in
    let places = c.loop-place.places in
    let P : List (Option ℕ) → Type 0 = λ m. Placed m (take (i + 1) l) in
    elim c.if-q-places.branch [
      | then-q-places w ↦
          subst P (sym (w.places-is ∙ ap (λ k. set places k (Some i)) c.from-q.ensures)) (placed_more places l i c.loop-place-test.true c.loop-place.invariant)
      | else-q-places w ↦
          subst P (sym w.places-is) (placed_past places l i c.loop-place-test.true (omega (arith, w.if-q-places.false, c.from-q.ensures)) c.loop-place.invariant)
    ]

pub returns-clause-placed : goal.returns-clause-placed
returns-clause-placed c = subst (Placed c.loop-place.places) (take_all c.loop-place.place c.args.qubits.now c.loop-place-test.false) c.loop-place.invariant
