-- Places in lists: what is in an appended list, in a map, in a flattened list; when those are distinct; and how long they are.
use Rattle.std.proofs.Common.{◌≡◌, ℕ, zero, suc, ◌*◌, ◌<◌, ◌≤◌, ◌≢◌, ◌⊎◌, List, [], ◌∷◌, ◌++◌, map, length, get_or, sym, refl, ap, ◌∙◌, subst, inl, inr, zero-mul, arith, length-append}
use Rattle.sets.specs.Lists.{In, Distinct, flat_in}

module _ {X : Type 0} where
  pub in_cast : {x y : X} (l : List X) → x ≡ y → In y l → In x l
  in_cast [] e m = m
  in_cast (z ∷ l) e (inl q) = inl (e ∙ q)
  in_cast (z ∷ l) e (inr m) = inr (in_cast l e m)

  pub in_left : (x : X) (s t : List X) → In x s → In x (s ++ t)
  in_left x [] t m = absurd m
  in_left x (y ∷ s) t (inl e) = inl e
  in_left x (y ∷ s) t (inr m) = inr (in_left x s t m)

  pub in_right : (x : X) (s t : List X) → In x t → In x (s ++ t)
  in_right x [] t m = m
  in_right x (y ∷ s) t m = inr (in_right x s t m)

  pub in_cases : (x : X) (s t : List X) → In x (s ++ t) → In x s ⊎ In x t
  in_cases x [] t m = inr m
  in_cases x (y ∷ s) t (inl e) = inl (inl e)
  in_cases x (y ∷ s) t (inr m) = elim (in_cases x s t m) [ inl a ↦ inl (inr a) | inr b ↦ inr b ]

  pub in_get_or : (l : List X) (k : ℕ) (d : X) → k < length l → In (get_or l k d) l
  in_get_or [] k d h = absurd (omega arith)
  in_get_or (y ∷ l) zero d h = inl refl
  in_get_or (y ∷ l) (suc k) d h = let h' : k < length l = omega arith in inr (in_get_or l k d h')

  pub distinct_append : (s t : List X) → Distinct s → Distinct t → ((x : X) → In x s → In x t → ⊥) → Distinct (s ++ t)
  distinct_append [] t ds dt apart = dt
  distinct_append (y ∷ s) t ds dt apart = (
    λ m. elim (in_cases y s t m) [ inl a ↦ ds.0 a | inr b ↦ apart y (inl refl) b ],
    distinct_append s t ds.1 dt (λ x a b. apart x (inr a) b),
  )

  -- the list without what stands at a place
  abbrev pub without : (x : X) (l : List X) → In x l → List X
  without x [] m = []
  without x (y ∷ l) (inl e) = l
  without x (y ∷ l) (inr m) = y ∷ without x l m

  pub length_without : (x : X) (l : List X) (m : In x l) → suc (length (without x l m)) ≡ length l
  length_without x [] m = absurd m
  length_without x (y ∷ l) (inl e) = refl
  length_without x (y ∷ l) (inr m) = ap suc (length_without x l m)

  pub in_without : (x z : X) (l : List X) (m : In x l) → z ≢ x → In z l → In z (without x l m)
  in_without x z [] m n h = h
  in_without x z (y ∷ l) (inl e) n (inl q) = absurd (n (q ∙ sym e))
  in_without x z (y ∷ l) (inl e) n (inr h) = h
  in_without x z (y ∷ l) (inr m) n (inl q) = inl q
  in_without x z (y ∷ l) (inr m) n (inr h) = inr (in_without x z l m n h)

  -- distinct things that all stand in another list are no more than that list has
  pub at_most : (s t : List X) → Distinct s → ((x : X) → In x s → In x t) → length s ≤ length t
  at_most [] t d sub = omega arith
  at_most (x ∷ s) t d sub =
      let m : In x t = sub x (inl refl) in
      let h : length s ≤ length (without x t m) = at_most s (without x t m) d.1 (λ z k. in_without x z t m (λ e. d.0 (in_cast s (sym e) k)) (sub z (inr k))) in
      omega (arith, h, length_without x t m)

module _ {X Y : Type 0} where
  pub in_map : (f : X → Y) (x : X) (l : List X) → In x l → In (f x) (map f l)
  in_map f x [] m = m
  in_map f x (y ∷ l) (inl e) = inl (ap f e)
  in_map f x (y ∷ l) (inr m) = inr (in_map f x l m)

  pub of_map : (f : X → Y) (y : Y) (l : List X) → In y (map f l) → (x : X) × In x l × (y ≡ f x)
  of_map f y [] m = absurd m
  of_map f y (x ∷ l) (inl e) = (x, inl refl, e)
  of_map f y (x ∷ l) (inr m) = let r = of_map f y l m in (r.0, inr r.1, r.2)

  pub distinct_map : (f : X → Y) (l : List X) → ((x y : X) → In x l → In y l → f x ≡ f y → x ≡ y) → Distinct l → Distinct (map f l)
  distinct_map f [] inj d = tt
  distinct_map f (x ∷ l) inj d = (
    λ m. let r = of_map f (f x) l m in d.0 (in_cast l (inj x r.0 (inl refl) (inr r.1) r.2) r.1),
    distinct_map f l (λ y z m n e. inj y z (inr m) (inr n) e) d.1,
  )

  pub in_flat : (y : Y) (x : X) (l : List X) (f : (x : X) → In x l → List Y) → In x l → ((m : In x l) → In y (f x m)) → In y (flat_in l f)
  in_flat y x [] f m h = absurd m
  in_flat y x (z ∷ l) f (inl e) h =
      in_left y (f z (inl refl)) (flat_in l (λ w n. f w (inr n))) (subst (λ (t : X). (m : In t (z ∷ l)) → In y (f t m)) e h (inl refl))
  in_flat y x (z ∷ l) f (inr m) h = in_right y (f z (inl refl)) (flat_in l (λ w n. f w (inr n))) (in_flat y x l (λ w n. f w (inr n)) m (λ n. h (inr n)))

  pub of_flat : (y : Y) (l : List X) (f : (x : X) → In x l → List Y) → In y (flat_in l f) → (x : X) × (m : In x l) × In y (f x m)
  of_flat y [] f h = absurd h
  of_flat y (z ∷ l) f h =
      elim (in_cases y (f z (inl refl)) (flat_in l (λ w n. f w (inr n))) h) [
        | inl a ↦ (z, inl refl, a)
        | inr b ↦ let r = of_flat y l (λ w n. f w (inr n)) b in (r.0, inr r.1, r.2)
      ]

  pub distinct_flat : (l : List X) (f : (x : X) → In x l → List Y) → Distinct l → ((x : X) (m : In x l) → Distinct (f x m))
      → ((x x' : X) (m : In x l) (m' : In x' l) (y : Y) → In y (f x m) → In y (f x' m') → x ≡ x') → Distinct (flat_in l f)
  distinct_flat [] f d each apart = tt
  distinct_flat (z ∷ l) f d each apart =
      distinct_append (f z (inl refl)) (flat_in l (λ w n. f w (inr n))) (each z (inl refl))
      (distinct_flat l (λ w n. f w (inr n)) d.1 (λ x m. each x (inr m)) (λ x x' m m' y. apart x x' (inr m) (inr m') y))
      (λ y a b. let r = of_flat y l (λ w n. f w (inr n)) b in d.0 (in_cast l (apart z r.0 (inl refl) (inr r.1) y a r.2) r.1))

  pub length_flat : (n : ℕ) (l : List X) (f : (x : X) → In x l → List Y) → ((x : X) (m : In x l) → length (f x m) ≡ n) → length (flat_in l f) ≡ length l * n
  length_flat n [] f h = sym (zero-mul n)
  length_flat n (z ∷ l) f h =
      let ih : length (flat_in l (λ w k. f w (inr k))) ≡ length l * n = length_flat n l (λ w k. f w (inr k)) (λ x m. h x (inr m)) in
      length-append (f z (inl refl)) (flat_in l (λ w k. f w (inr k))) ∙ omega (arith, ih, h z (inl refl))
