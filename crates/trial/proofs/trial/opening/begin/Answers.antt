use Rattle.std.proofs.Common.{◌≡◌, false, [], replicate, refl, ap, ap₂, ◌∙◌, arith}
use Rattle.upkeep.specs.Changed.{marked}
use Rattle.walking.specs.Walked.{Findings}
use Rattle.trial.specs.Standing.{shelf_of}
use Rattle.trial.proofs.Done.{still_equipped}
use Rattle.trial.proofs.Opens.{begins, is_sized, empty_shelf, is_equipped}
use Rattle.trial.proofs.trial.opening.begin.Goals as goal

pub invariant_of-result : goal.invariant_of-result
invariant_of-result c =
    let flipped = c.in_ok-flipped.ensures.items_if_clones_equal (λ y e. e) ∙ ap (λ k. replicate k false) c.qubits.ensures in
    let closed = c.in_ok-closed.ensures.items_if_clones_equal (λ y e. e) ∙ ap (λ k. replicate k false) c.checks.ensures in
    let odd = c.in_ok-odd.ensures ∙ ap (λ k. marked c.args.report.odd.now (replicate k false)) c.checks-2.ensures in
    let is = c.in_ok-erasures.ensures in
    let t = c.args.table.now in
    let shelf : c.in_ok-shelf.shelf ≡ empty_shelf t = c.in_ok-shelf.ensures ∙ ap₂ (λ n m. record { entries = []; qubits = n; checks = m }) c.qubits-3.ensures c.checks-3.ensures in (
      is_sized t c.args.report.lost.now c.args.report.odd.now c.args.number c.in_ok-erasures.erasures _ _ _ is.0 is.1 flipped closed odd (shelf_of c.in_ok-shelf.shelf) (ap shelf_of c.in_ok-shelf.ensures),
      (still_equipped t _ _ _ _ _ _ is.0 refl refl (is_equipped t _ _ _ (omega (arith, c.in_ok-listed.ensures, c.qubits-2.ensures)) shelf (ap (λ (w : Findings). w.table) c.in_ok-walker.ensures)), tt),
    )

pub invariant_of-board : goal.invariant_of-board
invariant_of-board c =
    let flipped = c.in_ok-flipped.ensures.items_if_clones_equal (λ y e. e) ∙ ap (λ k. replicate k false) c.qubits.ensures in
    let closed = c.in_ok-closed.ensures.items_if_clones_equal (λ y e. e) ∙ ap (λ k. replicate k false) c.checks.ensures in
    let odd = c.in_ok-odd.ensures ∙ ap (λ k. marked c.args.report.odd.now (replicate k false)) c.checks-2.ensures in
    let is = c.in_ok-erasures.ensures in
    let sized = is_sized c.args.table.now c.args.report.lost.now c.args.report.odd.now c.args.number c.in_ok-erasures.erasures _ _ _ is.0 is.1 flipped closed odd (shelf_of c.in_ok-shelf.shelf) (ap shelf_of c.in_ok-shelf.ensures) in
    record { flips = sized.flipped; odds = sized.odds }

pub returns : goal.returns
returns c =
    let flipped = c.in_ok-flipped.ensures.items_if_clones_equal (λ y e. e) ∙ ap (λ k. replicate k false) c.qubits.ensures in
    let closed = c.in_ok-closed.ensures.items_if_clones_equal (λ y e. e) ∙ ap (λ k. replicate k false) c.checks.ensures in
    let odd = c.in_ok-odd.ensures ∙ ap (λ k. marked c.args.report.odd.now (replicate k false)) c.checks-2.ensures in
    let is = c.in_ok-erasures.ensures in
    record { on_table = is.0; begins = begins c.args.table.now c.args.report.lost.now c.args.report.odd.now c.args.number c.in_ok-erasures.erasures _ _ _ is.0 is.1 flipped closed odd (shelf_of c.in_ok-shelf.shelf) (ap shelf_of c.in_ok-shelf.ensures) c.requires.lost c.requires.odd }
