-- Whether some element of a list passes a test: as a loop finds it, and what it means.
use Rattle.std.proofs.Common.{◌≡◌, Bool, false, List, [], ◌∷◌, map, refl, ap, ◌∙◌, inl, inr}
use Rattle.std.proofs.lemmas.Bool.{or_parts}
use Rattle.sets.specs.Lists.{In}
use Rattle.sets.specs.Sets.{any}

module _ {X : Type 0} (p : X → Bool) where
  pub any_false : (xs : List X) → any (map p xs) ≡ false → (x : X) → In x xs → p x ≡ false
  any_false [] e x m = absurd m
  any_false (y ∷ xs) e x (inl q) = ap p q ∙ (or_parts (p y) (any (map p xs)) e).0
  any_false (y ∷ xs) e x (inr m) = any_false xs (or_parts (p y) (any (map p xs)) e).1 x m

-- tests that agree on the elements
pub any_same : {X : Type 0} (p q : X → Bool) (xs : List X) → ((x : X) → In x xs → p x ≡ q x) → any (map p xs) ≡ any (map q xs)
any_same p q [] h = refl
any_same p q (x ∷ xs) h =
    let a = h x (inl refl) in
    let b = any_same p q xs (λ y m. h y (inr m)) in
    cc
