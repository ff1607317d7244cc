use Rattle.std.proofs.Common.{◌<◌, sym, ap, ◌∙◌, arith}
use Rattle.std.specs.Option.{option_eq}
use Rattle.sets.proofs.Sets.{has_below}
use Rattle.terms.specs.contracts.row.SidePartialEq.TheImpl.{eq-value}
use Rattle.meaning.specs.Meaning.{qubits}
use Rattle.meaning.specs.Telling.{side}
use Rattle.std.proofs.lemmas.List.{length-map}
use Rattle.upkeep.specs.Statuses.{erased_of, is_erased}
use Rattle.table.specs.OfTable.{meaning_of}
use Rattle.walking.specs.Seen.{seen}
use Rattle.walking.proofs.Sides.{beside_is, beside_not, sides_alike}
use Rattle.walking.proofs.scene.Scene.is_beside.Goals as goal

pub returns-then-is_erased : goal.returns-then-is_erased
returns-then-is_erased c =
    let v = c.args.self.now in
    let M = meaning_of v.table.now in
    let s = seen (erased_of v.status.now) v.closed.now in
    let long = length-map v.status.now is_erased ∙ v.statuses in
    let on = sym (c.is_erased.ensures) ∙ c.if-is_erased.true in
    let low : v.start < qubits M = omega (arith, has_below (erased_of v.status.now) v.start v.erased, long) in
    c.eq.ensures
    ∙ ap (λ o. option_eq eq-value.it o c.side-then-is_erased.result) c.side.ensures
    ∙ ap (λ o. option_eq eq-value.it (side M c.args.qubit) o) c.side-then-is_erased.ensures
    ∙ sides_alike M s long v.start c.args.qubit on low
    ∙ sym (beside_is M s long v.start c.args.qubit on)

pub returns-else-is_erased : goal.returns-else-is_erased
returns-else-is_erased c =
    let v = c.args.self.now in
    let long = length-map v.status.now is_erased ∙ v.statuses in
    c.if-is_erased.false ∙ sym (beside_not (meaning_of v.table.now) (seen (erased_of v.status.now) v.closed.now) long v.start c.args.qubit (sym c.is_erased.ensures ∙ c.if-is_erased.false))
