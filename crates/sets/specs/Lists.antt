-- Membership, distinctness and "exactly n things have the property P", over plain lists.
use Rattle.std.specs.Prelude.{◌≡◌, ℕ, ◌⊎◌, List, [], ◌∷◌, ◌++◌, length, refl}
use Rattle.std.proofs.Common.{inl, inr}

module _ {X : Type 0} where
  -- x stands somewhere in the list; a proof is a place
  abbrev pub In : X → List X → Type 0
  In x [] = ⊥
  In x (y ∷ ys) = (x ≡ y) ⊎ In x ys

  -- no element stands twice
  abbrev pub Distinct : List X → Type 0
  Distinct [] = Unit {0}
  Distinct (x ∷ xs) = (¬ In x xs) × Distinct xs

  -- the list has each thing with the property P, once, and nothing else
  pub record Lists (P : X → Type 0) (xs : List X) : Type 0 where
    pub distinct : Distinct xs
    pub sound : (x : X) → In x xs → P x
    pub complete : (x : X) → P x → In x xs

  -- exactly n things have the property P
  pub record Exactly (n : ℕ) (P : X → Type 0) : Type 0 where
    pub all : List X
    pub lists : Lists P all
    pub count : length all ≡ n

-- for each x of the list, in order, the list f x, which may know where x stands
abbrev pub flat_in : {X Y : Type 0} (xs : List X) → ((x : X) → In x xs → List Y) → List Y
flat_in [] f = []
flat_in (x ∷ xs) f = f x (inl refl) ++ flat_in xs (λ y m. f y (inr m))

abbrev pub flat : {X Y : Type 0} → (X → List Y) → List X → List Y
flat f xs = flat_in xs (λ x m. f x)
