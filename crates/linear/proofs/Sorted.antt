-- Lists in a strict order: two with the same elements are equal; and what keeps the order.
use mathlib.Core.Path.{◌≡◌, refl, sym, ap, ◌∙◌, subst}
use mathlib.Core.Logic.{◌⊎◌, inl, inr, ◌↔◌}
use mathlib.Core.Bool.{Bool, true, false, true≢false}
use mathlib.Core.List.{List, [], ◌∷◌, ◌++◌, map}
use Rattle.sets.specs.Lists.{In, flat_in}
use Rattle.linear.specs.System.{keep, keep_if}
use Rattle.sets.proofs.Lists.{in_cases, of_map, of_flat}

-- each element before all that follow it
abbrev pub Sorted : {X : Type 0} → (X → X → Type 0) → List X → Type 0
Sorted R [] = Unit {0}
Sorted {X} R (x ∷ l) = ((y : X) → In y l → R x y) × Sorted R l

module _ {X : Type 0} (R : X → X → Type 0) where
  pub sorted_unique : ((x y : X) → R x y → R y x → ⊥) → (s t : List X) → Sorted R s → Sorted R t → ((x : X) → In x s ↔ In x t) → s ≡ t
  sorted_unique asym [] [] p q iff = refl
  sorted_unique asym [] (y ∷ t) p q iff = absurd ((iff y).1 (inl refl))
  sorted_unique asym (x ∷ s) [] p q iff = absurd ((iff x).0 (inl refl))
  sorted_unique asym (x ∷ s) (y ∷ t) p q iff = cc (e, sorted_unique asym s t p.1 q.1 (λ z. (λ m. down z m ((iff z).0 (inr m)), λ m. up z m ((iff z).1 (inr m)))))
    where
      same : (x ≡ y) ⊎ In x t → (y ≡ x) ⊎ In y s → x ≡ y
      same (inl e) k = e
      same (inr m) (inl e) = sym e
      same (inr m) (inr n) = absurd (asym x y (p.0 y n) (q.0 x m))

      e : x ≡ y
      e = same ((iff x).0 (inl refl)) ((iff y).1 (inl refl))

      down : (z : X) → In z s → (z ≡ y) ⊎ In z t → In z t
      down z m (inl d) = let r : R x x = subst (R x) (d ∙ sym e) (p.0 z m) in absurd (asym x x r r)
      down z m (inr n) = n

      up : (z : X) → In z t → (z ≡ x) ⊎ In z s → In z s
      up z m (inl d) = let r : R y y = subst (R y) (d ∙ e) (q.0 z m) in absurd (asym y y r r)
      up z m (inr n) = n

  pub sorted_append : (s t : List X) → Sorted R s → Sorted R t → ((x y : X) → In x s → In y t → R x y) → Sorted R (s ++ t)
  sorted_append [] t p q h = q
  sorted_append (x ∷ s) t p q h = (
    λ y m. elim (in_cases y s t m) [ inl a ↦ p.0 y a | inr b ↦ h x y (inl refl) b ],
    sorted_append s t p.1 q (λ a b m n. h a b (inr m) n),
  )

  pub in_keep : (p : X → Bool) (x : X) (l : List X) → In x l → p x ≡ true → In x (keep p l)
  in_keep p x [] m e = m
  in_keep p x (y ∷ l) (inl q) e = go (p y) (ap p (sym q) ∙ e)
    where
      go : (t : Bool) → t ≡ true → In x (keep_if t y (keep p l))
      go true f = inl q
      go false f = absurd (true≢false (sym f))
  in_keep p x (y ∷ l) (inr m) e = go (p y) (in_keep p x l m e)
    where
      go : (t : Bool) → In x (keep p l) → In x (keep_if t y (keep p l))
      go true k = inr k
      go false k = k

  pub of_keep : (p : X → Bool) (x : X) (l : List X) → In x (keep p l) → In x l × (p x ≡ true)
  of_keep p x [] m = absurd m
  of_keep p x (y ∷ l) m = go (p y) refl m (λ k. of_keep p x l k)
    where
      go : (t : Bool) → p y ≡ t → In x (keep_if t y (keep p l)) → (In x (keep p l) → In x l × (p x ≡ true)) → ((x ≡ y) ⊎ In x l) × (p x ≡ true)
      go true e (inl q) ih = (inl q, ap p q ∙ e)
      go true e (inr k) ih = let r = ih k in (inr r.0, r.1)
      go false e k ih = let r = ih k in (inr r.0, r.1)

  pub sorted_keep : (p : X → Bool) (l : List X) → Sorted R l → Sorted R (keep p l)
  sorted_keep p [] h = tt
  sorted_keep p (x ∷ l) h = go (p x) (sorted_keep p l h.1)
    where
      go : (t : Bool) → Sorted R (keep p l) → Sorted R (keep_if t x (keep p l))
      go true s = (λ y m. h.0 y (of_keep p y l m).0, s)
      go false s = s

module _ {X Y : Type 0} (R : X → X → Type 0) (S : Y → Y → Type 0) where
  pub sorted_map : (f : X → Y) (l : List X) → ((x y : X) → In x l → In y l → R x y → S (f x) (f y)) → Sorted R l → Sorted S (map f l)
  sorted_map f [] mono h = tt
  sorted_map f (x ∷ l) mono h = (
    λ y m. let r = of_map f y l m in subst (S (f x)) (sym r.2) (mono x r.0 (inl refl) (inr r.1) (h.0 r.0 r.1)),
    sorted_map f l (λ a b m n. mono a b (inr m) (inr n)) h.1,
  )

  pub sorted_flat : (l : List X) (f : (x : X) → In x l → List Y) → ((x : X) (m : In x l) → Sorted S (f x m))
      → ((x x' : X) (m : In x l) (m' : In x' l) → R x x' → (y y' : Y) → In y (f x m) → In y' (f x' m') → S y y') → Sorted R l → Sorted S (flat_in l f)
  sorted_flat [] f each apart h = tt
  sorted_flat (x ∷ l) f each apart h =
      sorted_append S (f x (inl refl)) (flat_in l (λ w n. f w (inr n))) (each x (inl refl))
      (sorted_flat l (λ w n. f w (inr n)) (λ w n. each w (inr n)) (λ w w' m m'. apart w w' (inr m) (inr m')) h.1)
      (λ y y' a b. let r = of_flat y' l (λ w n. f w (inr n)) b in apart x r.0 (inl refl) (inr r.1) (h.0 r.0 r.1) y y' a r.2)
