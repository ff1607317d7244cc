use Rattle.std.proofs.Common.{◌≡◌, ℕ, List, map, min, inr, ap, ◌∙◌, subst}
use Rattle.terms.specs.Answering.{Answers}
use Rattle.meaning.specs.Listed.{listed_code, listed_told}
use Rattle.listed.specs.declared.Listed.{Listed}
use Rattle.listed.specs.Fault.{listed_fault}
use Rattle.listed.specs.OfListed.{sides_of, meaning_of, told_of}
use Rattle.played.specs.Reading.{counted, after_counted, counted_rows, after_counted_rows, listed_sides, listed_checks, listed_generators}
use Rattle.played.proofs.codes.listed_in.Goals as goal

pub returns : goal.returns
returns c =
    let l = c.args.numbers.now in
    let told : List ℕ → List (List ℕ) → List (List ℕ) → Type 0 = λ s a b. Answers c.new.result (listed_fault a b s) (λ (x : Listed). (meaning_of x ≡ listed_code a b (sides_of s)) × (told_of x ≡ listed_told a b)) in
    let sides : c.in_ok-sides.sides.items ≡ listed_sides l = c.in_ok-sides.ensures.sides ∙ ap (λ r. map (λ side. min side 255) (counted r)) c.new-rest.ensures in
    let left = c.in_ok-sides.ensures.rest ∙ ap after_counted c.new-rest.ensures in
    let checks : c.in_ok-checks.checks ≡ listed_checks l = c.in_ok-checks.ensures.rows ∙ ap counted_rows left in
    let generators : c.in_ok-generators.generators ≡ listed_generators l = c.in_ok-generators.ensures.rows ∙ ap counted_rows (c.in_ok-checks.ensures.rest ∙ ap after_counted_rows left) in
    inr
    (subst (λ s. told s (listed_checks l) (listed_generators l)) sides
    (subst (λ a. told c.in_ok-sides.sides.items a (listed_generators l)) checks (subst (told c.in_ok-sides.sides.items c.in_ok-checks.checks) generators c.new.ensures)))
