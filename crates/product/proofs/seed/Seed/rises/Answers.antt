use Rattle.std.proofs.Common.{◌≡◌, ℕ, zero, suc, add-one, ◌+◌, ◌<◌, Bool, true, false, ◌&&◌, List, [], ◌∷◌, length, get_or, Some, None, refl, ap, ◌∙◌, arith, rules}
use Rattle.std.specs.List.{AllAdjacentBelow, IsAllAdjacentAnswer}
use Rattle.std.proofs.lemmas.List.Sorted.{answers_always}
use borrow.Author.Tests.{tests}
use Rattle.product.specs.declared.place.Place.{Place}
use Rattle.product.specs.Seed.{before, rising_from}
use Rattle.product.proofs.seed.Seed.rises.Goals as goal

rising : (p : Place) (l : List Place) → AllAdjacentBelow (λ x y. true ≡ before x y) (p ∷ l) (length (p ∷ l)) → true ≡ rising_from (Some p) l
rising p [] h = refl
rising p (q ∷ l) h = rising q l (λ k d w. rw add-one (rw add-one at (h (suc k) d (omega arith)))) ∙ ap (λ t. t && rising_from (Some q) l) (h 0 p (omega arith))

falling : (p : Place) (l : List Place) (k : ℕ) (d : Place) → k + 1 < length (p ∷ l) → false ≡ before (get_or (p ∷ l) k d) (get_or (p ∷ l) (k + 1) d) → false ≡ rising_from (Some p) l
falling p [] k d w e = absurd (omega arith)
falling p (q ∷ l) zero d w e = ap (λ t. t && rising_from (Some q) l) e
falling p (q ∷ l) (suc k) d w e =
    let rest : false ≡ rising_from (Some q) l = falling q l k d (omega arith) (rw add-one (rw add-one at e)) in
    elim (before p q) as (λ b. false ≡ (b && rising_from (Some q) l)) [ true ↦ rest | false ↦ refl ]

adjacent : (l : List Place) (r : Bool) → IsAllAdjacentAnswer (λ x y b. b ≡ before x y) l r → r ≡ rising_from None l
adjacent [] true h = refl
adjacent [] false h = absurd (omega (arith, h.1))
adjacent (p ∷ l) true h = rising p l h
adjacent (p ∷ l) false h = falling p l h.0 p h.1 (h.2 p)

pub returns : goal.returns
returns c = adjacent c.args.self.now.ones.now c.is_sorted_by.result (c.is_sorted_by.ensures.cases before (answers_always _ _ _ (λ f a r f' k. search (rules, tests))))
