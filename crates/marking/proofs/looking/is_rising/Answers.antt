use Rattle.std.proofs.Common.{◌≡◌, ℕ, zero, suc, ◌<◌, Bool, true, false, ltb, List, [], ◌∷◌, length, get_or, sym, refl, arith, rules, tests}
use native.Mathlib.Numerals.{unary_clauses}
use Rattle.std.specs.List.{IsAllAdjacentAnswer}
use Rattle.std.proofs.lemmas.List.Sorted.{answers_always}
use Rattle.std.proofs.lemmas.Bool.{and_parts, and_from}
use Rattle.sets.proofs.Bits.{clash}
use Rattle.rules.specs.Reports.{rises, rises_from}
use Rattle.marking.proofs.looking.is_rising.Goals as goal

all_rise : (a : ℕ) (l : List ℕ) → ((k : ℕ) → k < length l → ltb (get_or (a ∷ l) k 0) (get_or l k 0) ≡ true) → rises_from a l ≡ true
all_rise a [] h = refl
all_rise a (b ∷ l) h = and_from _ _ (h 0 (omega arith)) (all_rise b l (λ k lt. h (suc k) (omega arith)))

rises_at : (a : ℕ) (l : List ℕ) → rises_from a l ≡ true → (k : ℕ) → k < length l → ltb (get_or (a ∷ l) k 0) (get_or l k 0) ≡ true
rises_at a [] e k lt = absurd (omega arith)
rises_at a (b ∷ l) e zero lt = (and_parts (ltb a b) (rises_from b l) e).0
rises_at a (b ∷ l) e (suc k) lt = rises_at b l (and_parts (ltb a b) (rises_from b l) e).1 k (omega arith)

-- what the library says of neighbours, said of the list
rises_is : (list : List ℕ) (r : Bool) → IsAllAdjacentAnswer (λ x y b. b ≡ ltb x y) list r → r ≡ rises list
rises_is [] true h = refl
rises_is [] false h = absurd (omega (arith, h.1))
rises_is (a ∷ l) true h = sym (all_rise a l (λ k lt. simp unary_clauses at (sym (h k 0 (omega arith)))))
rises_is (a ∷ l) false h = go (rises_from a l) refl
  where
    go : (t : Bool) → rises_from a l ≡ t → false ≡ t
    go true e = absurd (clash (rises_at a l e h.0 (omega (arith, h.1))) (simp unary_clauses at (sym (h.2 0))))
    go false e = refl

pub returns : goal.returns
returns c = rises_is c.args.list.now _ (c.is_sorted_by.ensures.cases ltb (answers_always _ _ _ (λ f a r g h. search (rules, tests))))
