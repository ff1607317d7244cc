-- The least solution of a basis.
use mathlib.Core.Path.{◌≡◌, refl, sym, ap, ◌∙◌, subst}
use mathlib.Core.Logic.{◌⊎◌, inl, inr}
use mathlib.Core.Bool.{Bool, true, false, cond}
use mathlib.Core.List.{List, [], ◌∷◌}
use Prim.Native.Nat.{suc, ◌<◌}
use native.Mathlib.Omega.{arith}
use Rattle.linear.specs.Field.{Field}
use Rattle.linear.specs.Basis.{Basis, done, free, lead, dot, Sol, least, place, place_in, Before}
use Rattle.linear.proofs.Algebra.{leave, left_of_lem}

module _ {F : Type 0} (K : Field F) where
  open K use {zer, one, add, mul, neg, inv, is, rest, is_eq, is_refl}

  pub least_solves : (B : Basis F) → Sol K B (least K B)
  least_solves done = tt
  least_solves (free B) = least_solves B
  least_solves (lead r s B) = (leave K s (dot K r (least K B)), least_solves B)

  place_zer : place K zer ≡ 0
  place_zer = ap (λ (t : Bool). cond t 0 (suc (place_in K zer rest))) (is_refl zer)

  -- a value is zero or comes after it
  zer_first : (v : F) → (v ≡ zer) ⊎ (place K zer < place K v)
  zer_first v = go (is v zer) refl
    where
      go : (t : Bool) → is v zer ≡ t → (v ≡ zer) ⊎ (place K zer < place K v)
      go true e = inl (is_eq v zer e)
      go false e =
          let p : place K v ≡ suc (place_in K v rest) = ap (λ (t : Bool). cond t 0 (suc (place_in K v rest))) e in
          inr (omega (arith, p, place_zer))

  -- a solution is the least one, or comes after it
  pub least_first : (B : Basis F) (x : List F) → Sol K B x → (x ≡ least K B) ⊎ Before K (least K B) x
  least_first done [] h = inl refl
  least_first done (x ∷ xs) h = absurd h
  least_first (free B) [] h = absurd h
  least_first (free B) (x ∷ xs) h = go (least_first B xs h) (zer_first x)
    where
      go : (xs ≡ least K B) ⊎ Before K (least K B) xs → (x ≡ zer) ⊎ (place K zer < place K x) → (x ∷ xs ≡ zer ∷ least K B) ⊎ Before K (zer ∷ least K B) (x ∷ xs)
      go (inl e) (inl q) = inl (cc)
      go (inl e) (inr q) = inr (inr (sym e, q))
      go (inr b) q = inr (inl b)
  least_first (lead r s B) [] h = absurd h
  least_first (lead r s B) (x ∷ xs) h = go (least_first B xs h.1)
    where
      w : F
      w = add s (neg (dot K r (least K B)))

      go : (xs ≡ least K B) ⊎ Before K (least K B) xs → (x ∷ xs ≡ w ∷ least K B) ⊎ Before K (w ∷ least K B) (x ∷ xs)
      go (inl e) = let q : x ≡ w = left_of_lem K x (dot K r xs) s h.0 ∙ ap (λ t. add s (neg (dot K r t))) e in inl (cc)
      go (inr b) = inr (inl b)

  -- Before is strict
  pub before_asym : (x y : List F) → Before K x y → Before K y x → ⊥
  before_asym [] y b c = b
  before_asym (a ∷ x) [] b c = b
  before_asym (a ∷ x) (d ∷ y) (inl b) (inl c) = before_asym x y b c
  before_asym (a ∷ x) (d ∷ y) (inl b) (inr c) = let b' : Before K x x = subst (Before K x) c.0 b in before_asym x x b' b'
  before_asym (a ∷ x) (d ∷ y) (inr b) (inl c) = let c' : Before K x x = subst (λ (t : List F). Before K t x) (sym b.0) c in before_asym x x c' c'
  before_asym (a ∷ x) (d ∷ y) (inr b) (inr c) = omega (arith, b.1, c.1)

  -- only the least solution is before every other
  pub least_only : (B : Basis F) (y : List F) → Sol K B y → ((x : List F) → Sol K B x → (x ≡ y) ⊎ Before K y x) → y ≡ least K B
  least_only B y h first = go (first (least K B) (least_solves B)) (least_first B y h)
    where
      go : (least K B ≡ y) ⊎ Before K y (least K B) → (y ≡ least K B) ⊎ Before K (least K B) y → y ≡ least K B
      go (inl e) q = sym e
      go (inr b) (inl e) = e
      go (inr b) (inr c) = absurd (before_asym y (least K B) b c)
