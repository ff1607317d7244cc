-- Rows that name no number twice, read crosswise.
use Rattle.std.proofs.Common.{◌≡◌, ℕ, zero, suc, ◌+◌, ◌<◌, ◌≤◌, Bool, true, false, cond, ◌||◌, eqb, List, [], ◌∷◌, ◌++◌, map, length, get_or, take, replicate, sym, refl, ap, ◌∙◌, add-one, arith, eqb-true}
use Rattle.std.proofs.lemmas.List.{length-map, length-take-le, get_or-map, take_more}
use Rattle.std.proofs.lemmas.List.Sums.{sum_by-cons}
use Rattle.std.proofs.lemmas.Bool.{or_parts}
use Rattle.sets.specs.Sets.{has, elements_from, elements, among, repeats}
use Rattle.rows.specs.Crossing.{times, namings, namers}
use Rattle.rows.proofs.Named.{one_as}

times_once : (q : ℕ) (row : List ℕ) → repeats row ≡ false → times q row ≡ cond (among q row) 1 0
times_once q [] e = refl
times_once q (p ∷ row) e =
    let r = or_parts (among p row) (repeats row) e in
    sum_by-cons (λ x. cond (eqb q x) 1 0) p row ∙ go (eqb q p) refl r.0 (times_once q row r.1)
  where
    go : (b : Bool) → eqb q p ≡ b → among p row ≡ false → times q row ≡ cond (among q row) 1 0 → cond b 1 0 + times q row ≡ cond (b || among q row) 1 0
    go true t z ih = omega (arith, ih, ap (λ b. cond {A = ℕ} b 1 0) (ap (λ (k : ℕ). among k row) (eqb-true q p t) ∙ z))
    go false t z ih = omega (arith, ih)

namings_once : (q k : ℕ) (row : List ℕ) → repeats row ≡ false → namings q k row ≡ cond (among q row) (k ∷ []) []
namings_once q k row e = ap (λ n. replicate n k) (times_once q row e) ∙ one_as (among q row) k

elements_push : (from : ℕ) (m : List Bool) (b : Bool) → elements_from from (m ++ b ∷ []) ≡ elements_from from m ++ cond b ((from + length m) ∷ []) []
elements_push from [] true = let e : from ≡ from + 0 = omega arith in ap (λ k. k ∷ []) e
elements_push from [] false = refl
elements_push from (true ∷ m) b =
    let e : from + 1 + length m ≡ from + suc (length m) = omega arith in
    ap (λ l. from ∷ l) (elements_push (from + 1) m b ∙ ap (λ k. elements_from (from + 1) m ++ cond b (k ∷ []) []) e)
elements_push from (false ∷ m) b =
    let e : from + 1 + length m ≡ from + suc (length m) = omega arith in
    elements_push (from + 1) m b ∙ ap (λ k. elements_from (from + 1) m ++ cond b (k ∷ []) []) e

-- those of the first n rows that name q
module _ (rows : List (List ℕ)) (q : ℕ) (once : (k : ℕ) → k < length rows → repeats (get_or rows k []) ≡ false) where
  abbrev named : List Bool
  named = map (among q) rows

  pub namers_are : (n : ℕ) → n ≤ length rows → namers rows q n ≡ elements (take n named)
  namers_are zero h = refl
  namers_are (suc n) h =
      let low : n < length rows = omega arith in
      let long : n < length named = omega (arith, length-map rows (among q)) in
      let here : n ≡ 0 + length (take n named) = omega (arith, length-take-le n named (omega arith)) in
      ap (λ l. l ++ namings q n (get_or rows n [])) (namers_are n (omega arith))
      ∙ ap (λ l. elements (take n named) ++ l) (namings_once q n (get_or rows n []) (once n low))
      ∙ ap (λ b. elements (take n named) ++ cond b (n ∷ []) []) (sym (get_or-map (among q) rows n [] false low))
      ∙ ap (λ k. elements (take n named) ++ cond (has named n) (k ∷ []) []) here
      ∙ sym (elements_push 0 (take n named) (has named n))
      ∙ ap elements (sym (take_more named n false long) ∙ ap (λ (k : ℕ). take k named) (add-one n))
