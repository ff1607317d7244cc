-- A row is independent of a basis, in its coefficients, exactly when some vector is zero on every row of the basis and not on it.
use mathlib.Core.Path.{◌≡◌, refl, sym, ap, ◌∙◌}
use mathlib.Core.Bool.{Bool, true, false}
use mathlib.Core.List.{List, [], ◌∷◌, map}
use Rattle.linear.specs.Field.{Field}
use Rattle.linear.specs.Basis.{Basis, done, free, lead, Insertion, grown, known, clash, under, ended, at_free, hd, tl, dot, mix, insert}
use Rattle.linear.specs.Theorems.{Null, Tells}
use Rattle.linear.proofs.Algebra.{zer_add, zer_mul, mul_zer, reduce, is_not, dot_mix, leave}

module _ {F : Type 0} (K : Field F) where
  open K use {zer, one, add, mul, neg, inv, is, rest, is_eq, is_refl, add_zer, mul_one}

  zeros : Basis F → List F
  zeros done = []
  zeros (free B) = zer ∷ zeros B
  zeros (lead r s B) = zer ∷ zeros B

  dot_zeros : (B : Basis F) (a : List F) → dot K a (zeros B) ≡ zer
  unfolding zeros
  dot_zeros done a = refl
  dot_zeros (free B) a = ap (add (mul (hd K a) zer)) (dot_zeros B (tl K a)) ∙ add_zer (mul (hd K a) zer) ∙ mul_zer K (hd K a)
  dot_zeros (lead r s B) a = ap (add (mul (hd K a) zer)) (dot_zeros B (tl K a)) ∙ add_zer (mul (hd K a) zer) ∙ mul_zer K (hd K a)

  null_zeros : (B : Basis F) → Null K B (zeros B)
  unfolding zeros
  null_zeros done = tt
  null_zeros (free B) = null_zeros B
  null_zeros (lead r s B) = (zer_add K (dot K r (zeros B)) ∙ dot_zeros B r, null_zeros B)

  at_end : (a : List F) (t : Bool) → Tells K done a (ended t)
  at_end a true = elim [ [] ↦ λ h. refl | x ∷ xs ↦ λ h. absurd h ]
  at_end a false = elim [ [] ↦ λ h. refl | x ∷ xs ↦ λ h. absurd h ]

  first_zer : (a : List F) (x : F) (xs : List F) → hd K a ≡ zer → dot K a (x ∷ xs) ≡ dot K (tl K a) xs
  first_zer a x xs e = ap (λ t. add (mul t x) (dot K (tl K a) xs)) e ∙ ap (λ t. add t (dot K (tl K a) xs)) (zer_mul K x) ∙ zer_add K (dot K (tl K a) xs)

  at_free_lem : (B : Basis F) (a : List F) (t : Bool) → is (hd K a) zer ≡ t → (o : Insertion F) (C : Basis F) → Tells K B (tl K a) o → Tells K (free B) a (at_free t o C)
  at_free_lem B a true e (grown B') C (x, n, d) = (zer ∷ x, n, λ q. d (sym (first_zer a zer x (is_eq (hd K a) zer e)) ∙ q))
  at_free_lem B a true e known C h = elim [ [] ↦ λ n. absurd n | x ∷ xs ↦ λ n. first_zer a x xs (is_eq (hd K a) zer e) ∙ h xs n ]
  at_free_lem B a true e clash C h = elim [ [] ↦ λ n. absurd n | x ∷ xs ↦ λ n. first_zer a x xs (is_eq (hd K a) zer e) ∙ h xs n ]
  at_free_lem B a false e o C h = (
    one ∷ zeros B,
    null_zeros B,
    λ q. is_not K (hd K a) zer e (sym (ap (add (mul (hd K a) one)) (dot_zeros B (tl K a)) ∙ add_zer (mul (hd K a) one) ∙ mul_one (hd K a)) ∙ q),
  )

  -- with x + d ≡ 0, the coefficient taken off leaves what was there
  keeps : (c : F) (a r : List F) (x : F) (xs : List F) → add x (dot K r xs) ≡ zer → dot K (mix K (neg c) r a) xs ≡ add (mul c x) (dot K a xs)
  keeps c a r x xs h =
      let p : F = add (mul c x) (dot K a xs) in
      dot_mix K (neg c) r a xs ∙ (reduce K c x (dot K a xs) (dot K r xs) p zer h).1 refl ∙ ap (add p) (mul_zer K (neg c)) ∙ add_zer p

  at_lead : (r : List F) (s : F) (B : Basis F) (a : List F) (o : Insertion F) → Tells K B (mix K (neg (hd K a)) r (tl K a)) o → Tells K (lead r s B) a (under (lead r s) o)
  at_lead r s B a (grown B') (x, n, d) = (add zer (neg (dot K r x)) ∷ x, (leave K zer (dot K r x), n), λ q. d (keeps (hd K a) (tl K a) r (add zer (neg (dot K r x))) x (leave K zer (dot K r x)) ∙ q))
  at_lead r s B a known h = elim [ [] ↦ λ n. absurd n | x ∷ xs ↦ λ n. sym (keeps (hd K a) (tl K a) r x xs n.0) ∙ h xs n.1 ]
  at_lead r s B a clash h = elim [ [] ↦ λ n. absurd n | x ∷ xs ↦ λ n. sym (keeps (hd K a) (tl K a) r x xs n.0) ∙ h xs n.1 ]

  pub insert_tells : (B : Basis F) (a : List F) (b : F) → Tells K B a (insert K B a b)
  insert_tells done a b = at_end a (is b zer)
  insert_tells (free B) a b = at_free_lem B a (is (hd K a) zer) refl (insert K B (tl K a) b) (lead (map (mul (inv (hd K a))) (tl K a)) (mul (inv (hd K a)) b) B) (insert_tells B (tl K a) b)
  insert_tells (lead r s B) a b = at_lead r s B a (insert K B (mix K (neg (hd K a)) r (tl K a)) (add b (mul (neg (hd K a)) s))) (insert_tells B (mix K (neg (hd K a)) r (tl K a)) (add b (mul (neg (hd K a)) s)))
