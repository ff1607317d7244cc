-- Sets that are given by listing their elements, and whether a list names a number.
use Rattle.std.proofs.Common.{◌≡◌, ℕ, zero, suc, ◌<◌, Bool, true, false, ◌&&◌, ◌||◌, eqb, ◌⊎◌, List, [], ◌∷◌, length, set, sym, refl, ap, ◌∙◌, inl, inr, arith, length-set, get_or-set_other, get_or-set_same, eqb-true}
use lib.ListN.{length-replicate}
use borrow.Author.Tests.{eqb-false}
use Rattle.std.specs.List.{IsAnyAnswer}
use Rattle.std.proofs.lemmas.List.Elements.{contains_decides}
use Rattle.std.proofs.lemmas.Bool.Decides.{same_from_decides, Decides-by_or, Decides-like, Decides-eqb}
use Rattle.std.proofs.lemmas.Bool.{cases_Bool}
use Rattle.sets.specs.Bits.{flip}
use Rattle.sets.specs.Lists.{In}
use Rattle.sets.specs.Sets.{has, marks, odd, among}
use Rattle.sets.proofs.Bits.{flip_assoc, flip_comm}
use Rattle.sets.proofs.Sets.{has_empty}

pub length_marks : (n : ℕ) (l : List ℕ) → length (marks n l) ≡ n
length_marks n [] = length-replicate n false
length_marks n (k ∷ l) = length-set (marks n l) k true ∙ length_marks n l

-- the set has exactly the listed numbers
pub has_marks : (n : ℕ) (l : List ℕ) → ((q : ℕ) → In q l → q < n) → (q : ℕ) → has (marks n l) q ≡ among q l
has_marks n [] low q = has_empty n q
has_marks n (k ∷ l) low q = go (cases_Bool (eqb q k)) (has_marks n l (λ p m. low p (inr m)) q)
  where
    go : (eqb q k ≡ true) ⊎ (eqb q k ≡ false) → has (marks n l) q ≡ among q l → has (set (marks n l) k true) q ≡ (eqb q k || among q l)
    go (inl e) ih =
        let h : k < length (marks n l) = omega (arith, low k (inl refl), length_marks n l) in
        ap (has (set (marks n l) k true)) (eqb-true q k e) ∙ get_or-set_same (marks n l) k true false h ∙ ap (λ b. b || among q l) (sym e)
    go (inr e) ih = get_or-set_other (marks n l) k q true false (eqb-false q k e) ∙ ih ∙ ap (λ b. b || among q l) (sym e)

-- one more element, which the set lacked
pub odd_set : (m x : List Bool) (q : ℕ) → q < length m → has m q ≡ false → odd (set m q true) x ≡ flip (has x q) (odd m x)
odd_set [] x q h e = absurd (omega arith)
odd_set (b ∷ m) [] zero h e = refl
odd_set (b ∷ m) [] (suc q) h e = refl
odd_set (b ∷ m) (y ∷ x) zero h e = sym (ap (λ t. flip y (flip (t && y) (odd m x))) e)
odd_set (b ∷ m) (y ∷ x) (suc q) h e =
    let h' : q < length m = omega arith in
    ap (flip (b && y)) (odd_set m x q h' e)
    ∙ sym (flip_assoc (b && y) (has x q) (odd m x))
    ∙ ap (λ t. flip t (odd m x)) (flip_comm (b && y) (has x q))
    ∙ flip_assoc (has x q) (b && y) (odd m x)

-- what a search of the list for a number answers
pub contains_among : (l : List ℕ) (q : ℕ) (r : Bool) → IsAnyAnswer (λ k t. eqb k q ≡ t) l r → r ≡ among q l
contains_among l q r h =
    same_from_decides r (among q l) (contains_decides eqb Decides-eqb l q r h)
    (Decides-by_or (eqb q) (λ k. k ≡ q) (among q) (λ k. Decides-like (eqb q k) sym sym (Decides-eqb q k)) refl (λ _ _. refl) l)
