use Rattle.std.proofs.Common.{◌≡◌, ℕ, zero, suc, ◌<◌, ◌≤◌, false, eqb, ltb, List, length, get_or, Some, None, vec_items, sym, refl, ap, ◌∙◌, arith, le-ltb, lt-ltb}
use lib.ListN.{length-map}
use Rattle.std.specs.Result.{result_ok}
use Rattle.std.proofs.lemmas.List.{get_or-map}
use Rattle.terms.specs.Rows.{side_of, side_numbered}
use Rattle.sets.specs.Sets.{has}
use Rattle.sets.proofs.Lists.{in_get_or}
use Rattle.meaning.specs.Telling.{within_range}
use Rattle.meaning.proofs.Answered.{in_range, out_of_range}
use Rattle.listed.specs.OfListed.{sides_of, meaning_of}
use Rattle.listed.proofs.Limits.{limits_of}
use Rattle.listed.proofs.answers.ListedCode.side.Goals as goal

sided : (n : ℕ) → n ≤ 1 → result_ok (side_numbered n) ≡ Some (side_of (eqb n 1))
sided zero h = refl
sided (suc zero) h = refl
sided (suc (suc n)) h = absurd (omega arith)

module _ (sides : List ℕ) (q : ℕ) where
  long : length (sides_of sides) ≡ length sides
  long = length-map sides (λ s. eqb s 1)

  named : q < length sides → Some (side_of (eqb (get_or sides q 0) 1)) ≡ within_range (ltb q (length (sides_of sides))) (side_of (has (sides_of sides) q))
  named h =
      ap (λ s. Some (side_of s)) (sym (get_or-map (λ s. eqb s 1) sides q 0 false h))
      ∙ in_range (ltb q (length (sides_of sides))) (side_of (has (sides_of sides) q)) (lt-ltb q (length (sides_of sides)) (omega (arith, long)))

  unnamed : length sides ≤ q → None ≡ within_range (ltb q (length (sides_of sides))) (side_of (has (sides_of sides) q))
  unnamed h = out_of_range (ltb q (length (sides_of sides))) (side_of (has (sides_of sides) q)) (le-ltb q (length (sides_of sides)) (omega (arith, long)))

pub returns-in_err-side : goal.returns-in_err-side
unfolding meaning_of
returns-in_err-side c =
    c.from_residual.ensures
    ∙ unnamed (vec_items c.args.self.now.sides) c.args.qubit (omega (arith, c.in_err-side.ensures.lookup.3, ap length c.deref.ensures.value))

pub returns : goal.returns
unfolding meaning_of
returns c =
    let code = c.args.self.now in
    let sides = vec_items code.sides in
    let q = c.args.qubit in
    let low : q < length sides = omega (arith, c.in_ok-side.ensures.lookup.3.0, ap length c.deref.ensures.value) in
    let at : c.in_ok-side.side.now ≡ get_or sides q 0 = c.in_ok-side.ensures.lookup.3.1 0 ∙ ap (λ l. get_or l q 0) c.deref.ensures.value in
    c.ok.ensures.value
    ∙ ap result_ok (c.try_from.ensures ∙ ap side_numbered at)
    ∙ sided (get_or sides q 0) ((limits_of code).sided (get_or sides q 0) (in_get_or sides q 0 low))
    ∙ named sides q low
