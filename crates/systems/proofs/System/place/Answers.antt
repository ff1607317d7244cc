use Rattle.std.proofs.Common.{◌≡◌, ◌<◌, None, length, get_or, sym, ap, ◌∙◌, arith}
use Rattle.std.proofs.lemmas.Bool.{ltb-true}
use Rattle.std.proofs.lemmas.List.{get_or_default}
use Rattle.systems.proofs.System.place.Goals as goal

pub returns-clause-place : goal.returns-clause-place
returns-clause-place c low x e =
    let places = c.args.self.now.places.items in
    let there = ltb-true c.from.result (length c.deref.result.now) (sym c.in_ok-get.ensures.lookup.0) in
    let is : get_or places c.args.qubit None ≡ c.in_ok-get.field-0.now =
    ap (λ i. get_or places i None) (sym c.from.ensures) ∙ ap (λ l. get_or l c.from.result None) (sym c.deref.ensures.value) ∙ get_or_default c.deref.result.now c.from.result None c.in_ok-get.field-0.now there
    ∙ sym c.in_ok-get.ensures.lookup.1 in
    let inside : c.args.qubit < length places = omega (arith, there, c.from.ensures, ap length c.deref.ensures.value) in
    (c.args.self.now.placed c.args.qubit inside).1 x (is ∙ e)
