-- The order of vectors: all solutions of a basis stand in it, the lowest-numbered unknown most significant.
use mathlib.Core.Path.{◌≡◌, refl, sym, ap, subst}
use mathlib.Core.Logic.{inl, inr, ◌≢◌}
use mathlib.Core.Bool.{Bool, true, false, cond}
use mathlib.Core.List.{List, [], ◌∷◌, ◌++◌, map}
use Prim.Native.Nat.{suc, ◌<◌}
use native.Mathlib.Omega.{arith}
use Rattle.sets.specs.Lists.{In, Distinct}
use Rattle.sets.proofs.Lists.{in_cast, of_map}
use Rattle.linear.specs.Field.{Field}
use Rattle.linear.specs.Basis.{Basis, done, free, lead, dot, all, place, place_in, Before}
use Rattle.linear.specs.System.{rev, Lex}
use Rattle.linear.proofs.Sorted.{Sorted, sorted_map, sorted_flat}

module _ {F : Type 0} (K : Field F) where
  open K use {zer, add, neg, is, rest, is_eq, is_refl, distinct}

  -- the values stand in the order of their places
  place_skip : (v w : F) (ws : List F) → v ≢ w → place_in K v (w ∷ ws) ≡ suc (place_in K v ws)
  place_skip v w ws n = go (is v w) refl
    where
      go : (t : Bool) → is v w ≡ t → cond t 0 (suc (place_in K v ws)) ≡ suc (place_in K v ws)
      go true e = absurd (n (is_eq v w e))
      go false e = refl

  place_here : (w : F) (ws : List F) → place_in K w (w ∷ ws) ≡ 0
  place_here w ws = ap (λ (t : Bool). cond t 0 (suc (place_in K w ws))) (is_refl w)

  places : (l : List F) → Distinct l → Sorted (λ v w. place_in K v l < place_in K w l) l
  places [] d = tt
  places (w ∷ ws) d = (
    λ v m. let a : place_in K v (w ∷ ws) ≡ suc (place_in K v ws) = place_skip v w ws (other v m) in omega (arith, a, place_here w ws),
    deeper ws (λ v m. m) (places ws d.1),
  )
    where
      other : (v : F) → In v ws → v ≢ w
      other v m e = d.0 (in_cast ws (sym e) m)

      deeper : (l : List F) → ((v : F) → In v l → In v ws) → Sorted (λ v u. place_in K v ws < place_in K u ws) l → Sorted (λ v u. place_in K v (w ∷ ws) < place_in K u (w ∷ ws)) l
      deeper [] sub h = tt
      deeper (x ∷ l) sub h = (
        λ y m.
            let a : place_in K x (w ∷ ws) ≡ suc (place_in K x ws) = place_skip x w ws (other x (sub x (inl refl))) in
            let b : place_in K y (w ∷ ws) ≡ suc (place_in K y ws) = place_skip y w ws (other y (sub y (inr m))) in
            omega (arith, a, b, h.0 y m),
        deeper l (λ v m. sub v (inr m)) h.1,
      )

  abbrev pub Less : F → F → Type 0
  Less v w = place K v < place K w

  pub values_sorted : Sorted Less (zer ∷ rest)
  values_sorted = places (zer ∷ rest) distinct

  -- all solutions of a basis stand in order
  pub all_sorted : (B : Basis F) → Sorted (Before K) (all K B)
  all_sorted done = (λ y m. absurd m, tt)
  all_sorted (free B) =
      sorted_flat (Before K) (Before K) (all K B) (λ xs m. map (λ v. v ∷ xs) (zer ∷ rest))
      (λ xs m. sorted_map Less (Before K) (λ v. v ∷ xs) (zer ∷ rest) (λ v w _ _ h. inr (refl, h)) values_sorted)
      (λ xs xs' m m' h y y' a b. apart xs xs' y y' h (of_map (λ v. v ∷ xs) y (zer ∷ rest) a) (of_map (λ v. v ∷ xs') y' (zer ∷ rest) b))
      (all_sorted B)
    where
      apart : (xs xs' y y' : List F) → Before K xs xs' → (v : F) × In v (zer ∷ rest) × (y ≡ v ∷ xs) → (v : F) × In v (zer ∷ rest) × (y' ≡ v ∷ xs') → Before K y y'
      apart xs xs' y y' h (v, m, e) (w, n, f) = subst (λ (t : List F). Before K t y') (sym e) (subst (Before K (v ∷ xs)) (sym f) (inl h))
  all_sorted (lead r s B) = sorted_map (Before K) (Before K) (λ xs. add s (neg (dot K r xs)) ∷ xs) (all K B) (λ x y _ _ h. inl h) (all_sorted B)

  -- turned round, the order is the one from the first unknown on
  lex_more : (x y s t : List F) → Lex K x y → Lex K (x ++ s) (y ++ t)
  lex_more [] y s t h = absurd h
  lex_more (a ∷ x) [] s t h = absurd h
  lex_more (a ∷ x) (b ∷ y) s t (inl h) = inl h
  lex_more (a ∷ x) (b ∷ y) s t (inr h) = inr (h.0, lex_more x y s t h.1)

  lex_last : (x : List F) (a b : F) → Less a b → Lex K (x ++ (a ∷ [])) (x ++ (b ∷ []))
  lex_last [] a b h = inl h
  lex_last (c ∷ x) a b h = inr (refl, lex_last x a b h)

  pub before_lex : (x y : List F) → Before K x y → Lex K (rev x) (rev y)
  before_lex [] y h = absurd h
  before_lex (a ∷ x) [] h = absurd h
  before_lex (a ∷ x) (b ∷ y) (inl h) = lex_more (rev x) (rev y) (a ∷ []) (b ∷ []) (before_lex x y h)
  before_lex (a ∷ x) (b ∷ y) (inr h) = subst (λ (t : List F). Lex K (rev x ++ (a ∷ [])) (rev t ++ (b ∷ []))) h.0 (lex_last (rev x) a b h.1)

  pub lex_asym : (x y : List F) → Lex K x y → Lex K y x → ⊥
  lex_asym [] y h k = h
  lex_asym (a ∷ x) [] h k = h
  lex_asym (a ∷ x) (b ∷ y) (inl h) (inl k) = omega arith
  lex_asym (a ∷ x) (b ∷ y) (inl h) (inr k) = let e : place K a ≡ place K b = ap (place K) (sym k.0) in omega arith
  lex_asym (a ∷ x) (b ∷ y) (inr h) (inl k) = let e : place K a ≡ place K b = ap (place K) h.0 in omega arith
  lex_asym (a ∷ x) (b ∷ y) (inr h) (inr k) = lex_asym x y h.1 k.1
