use Rattle.std.proofs.Common.{◌≡◌, ℕ, ◌/◌, List, map, length, drop, get_or, inr, ap, ◌∙◌, subst}
use Rattle.std.specs.Simd.{first_chunks}
use Rattle.std.proofs.lemmas.List.{drop-drop}
use Rattle.std.proofs.lemmas.Grind.{get_or_after_one}
use Rattle.terms.specs.Answering.{Answers}
use Rattle.meaning.specs.Product.{product_code, product_told}
use Rattle.product.specs.declared.place.Place.{Place}
use Rattle.product.specs.declared.product.Product.{Product}
use Rattle.product.specs.OfProduct.{meaning_of, told_of}
use Rattle.product.specs.Seed.{seed_fault, seed_of}
use Rattle.played.specs.Reading.{short, place_of, seed_rows, seed_columns, seed_places}
use Rattle.played.proofs.codes.product_in.Goals as goal

pub returns : goal.returns
returns c =
    let l = c.args.numbers.now in
    let told : ℕ → ℕ → List Place → Type 0 = λ r n p. Answers c.new.result (seed_fault r n p) (λ (x : Product). (meaning_of x ≡ product_code r n (seed_of r n p)) × (told_of x ≡ product_told r n (seed_of r n p))) in
    let one = c.short-rows.ensures.rest ∙ ap (drop 1) c.new-rest.ensures in
    let two = c.short-columns.ensures.rest ∙ ap (drop 1) one ∙ drop-drop 1 1 l in
    let rows : c.short-rows.result ≡ seed_rows l = c.short-rows.ensures.value ∙ ap (λ r. short (get_or r 0 0)) c.new-rest.ensures in
    let columns : c.short-columns.result ≡ seed_columns l = c.short-columns.ensures.value ∙ ap (λ r. short (get_or r 0 0)) one ∙ ap short (get_or_after_one l 0 0) in
    let places : c.as_slice.result.now ≡ seed_places l =
    c.as_slice.ensures.value ∙ c.in_ok-places.ensures ∙ ap (map place_of) (c.pairs.ensures ∙ ap (λ r. first_chunks 2 (length r / 2) r) two) in
    inr
    (subst (λ r. told r (seed_columns l) (seed_places l)) rows
    (subst (λ n. told c.short-rows.result n (seed_places l)) columns (subst (told c.short-rows.result c.short-columns.result) places c.new.ensures)))
