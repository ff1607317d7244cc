use Rattle.std.proofs.Common.{◌≡◌, ℕ, ◌-◌, ◌/◌, ◌%◌, ◌≤◌, cond, eqb, List, map, take, drop, length, Some, None, ap, ◌∙◌, arith, le-ltb, ne_eqb}
use Rattle.std.specs.Simd.{first_chunks}
use Rattle.std.proofs.lemmas.List.{length-drop, take_all}
use Rattle.terms.specs.declared.refusal.Refusal.TheVariants.{WrongEnd, OutsideLimits}
use Rattle.terms.proofs.Answering.{memory_ok}
use Rattle.naming.specs.Texts.{place_of, count_fault}
use Rattle.naming.proofs.Pairs.{pairs_places}
use Rattle.naming.proofs.texts.places_in.Goals as goal

counted : (l : List ℕ) → 2 ≤ length l → (length l % 2 ≡ 1 → ⊥) → count_fault l ≡ None
counted l h o = ap (λ t. cond t (Some WrongEnd) (cond (eqb (length l % 2) 1) (Some OutsideLimits) None)) (le-ltb (length l) 2 h) ∙ ap (λ t. cond t (Some OutsideLimits) None) (ne_eqb (length l % 2) 1 o)

pub returns : goal.returns
returns c =
    let l = c.args.numbers.now in
    let n = length-drop 2 l in
    let even : length l % 2 ≡ 1 → ⊥ = λ e. omega (arith, n, e, c.as_chunks.ensures.back_len, c.in_default-empty.len_below, c.in-len2-up.len_at_least) in
    let rest : take (length l - 2) (drop 2 l) ≡ drop 2 l = take_all (length l - 2) (drop 2 l) (omega (arith, n)) in
    let half : length (take (length l - 2) (drop 2 l)) / 2 ≡ (length l - 2) / 2 = ap (λ x. length x / 2) rest ∙ ap (λ k. k / 2) n in
    let pairs : c.as_chunks.result.0.now ≡ first_chunks 2 ((length l - 2) / 2) (drop 2 l) = c.as_chunks.ensures.front ∙ (λ i. first_chunks 2 (half i) (rest i)) in
    memory_ok _ _ _ (counted l c.in-len2-up.len_at_least even)
    (c.in_ok-places.ensures ∙ ap (map place_of) pairs ∙ pairs_places l 0 ((length l - 2) / 2) 2 (omega arith))
