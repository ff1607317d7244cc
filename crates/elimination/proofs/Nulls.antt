-- What is zero on the left sides of a basis, after a row went into it.
use Rattle.std.proofs.Common.{◌≡◌, Bool, true, false, ◌↔◌, List, [], ◌∷◌, map, sym, refl, ap, ◌∙◌, subst}
use Rattle.linear.specs.Field.{Field}
use Rattle.linear.specs.Basis.{Basis, done, free, lead, Insertion, grown, known, clash, under, ended, at_free, hd, tl, dot, mix, Sol, insert, Says}
use Rattle.linear.specs.Theorems.{Null, Tells}
use Rattle.linear.proofs.Algebra.{mul_zer}
use Rattle.linear.proofs.Insert.{insert_says}
use Rattle.linear.proofs.Free.{insert_tells}

module _ {F : Type 0} (K : Field F) where
  open K use {zer, add, mul, neg, inv, is, is_refl, add_zer}

  -- every right side zero
  abbrev level : Basis F → Basis F
  level done = done
  level (free B) = free (level B)
  level (lead r s B) = lead r zer (level B)

  abbrev levelled : Insertion F → Insertion F
  levelled (grown B) = grown (level B)
  levelled known = known
  levelled clash = known

  null_level : (B : Basis F) (x : List F) → Null K B x ↔ Sol K (level B) x
  null_level done [] = (λ h. h, λ h. h)
  null_level done (x ∷ xs) = (λ h. h, λ h. h)
  null_level (free B) [] = (λ h. h, λ h. h)
  null_level (free B) (x ∷ xs) = null_level B xs
  null_level (lead r s B) [] = (λ h. h, λ h. h)
  null_level (lead r s B) (x ∷ xs) = (λ h. (h.0, (null_level B xs).0 h.1), λ h. (h.0, (null_level B xs).1 h.1))

  under_free : (o : Insertion F) → under free (levelled o) ≡ levelled (under free o)
  under_free (grown B) = refl
  under_free known = refl
  under_free clash = refl

  under_lead : (r : List F) (s : F) (o : Insertion F) → under (lead r zer) (levelled o) ≡ levelled (under (lead r s) o)
  under_lead r s (grown B) = refl
  under_lead r s known = refl
  under_lead r s clash = refl

  at_end : (t : Bool) → ended (is zer zer) ≡ levelled (ended t)
  at_end true = ap (λ b. ended b) (is_refl zer)
  at_end false = ap (λ b. ended b) (is_refl zer)

  at_free_lem : (t : Bool) (o p : Insertion F) (r : List F) (s z : F) (B : Basis F) → p ≡ levelled o → z ≡ zer → at_free t p (lead r z (level B)) ≡ levelled (at_free t o (lead r s B))
  at_free_lem true o p r s z B e q = ap (under free) e ∙ under_free o
  at_free_lem false o p r s z B e q = ap (λ y. grown (lead r y (level B))) q

  insert_level : (B : Basis F) (a : List F) (b : F) → insert K (level B) a zer ≡ levelled (insert K B a b)
  insert_level done a b = at_end (is b zer)
  insert_level (free B) a b =
      at_free_lem (is (hd K a) zer) (insert K B (tl K a) b) (insert K (level B) (tl K a) zer) (map (mul (inv (hd K a))) (tl K a)) (mul (inv (hd K a)) b) (mul (inv (hd K a)) zer) B
      (insert_level B (tl K a) b) (mul_zer K (inv (hd K a)))
  insert_level (lead r s B) a b =
      let c : F = neg (hd K a) in
      ap (λ z. under (lead r zer) (insert K (level B) (mix K c r (tl K a)) z)) (ap (add zer) (mul_zer K c) ∙ add_zer zer)
      ∙ ap (under (lead r zer)) (insert_level B (mix K c r (tl K a)) (add b (mul c s)))
      ∙ under_lead r s (insert K B (mix K c r (tl K a)) (add b (mul c s)))

  -- a new row asks one thing more
  pub null_grown : (B C : Basis F) (a : List F) (b : F) → grown C ≡ insert K B a b → (x : List F) → Null K C x ↔ (Null K B x × (dot K a x ≡ zer))
  null_grown B C a b e x =
      let says : Says K (level B) a zer (grown (level C)) = subst (Says K (level B) a zer) (insert_level B a b ∙ sym (ap levelled e)) (insert_says K (level B) a zer) in (
        λ h. let p = (says x).0 ((null_level C x).0 h) in ((null_level B x).1 p.0, p.1),
        λ h. (null_level C x).1 ((says x).1 ((null_level B x).0 h.0, h.1)),
      )

  -- any other asks nothing
  pub null_known : (B : Basis F) (a : List F) (b : F) → known ≡ insert K B a b → (x : List F) → Null K B x → dot K a x ≡ zer
  null_known B a b e = subst (Tells K B a) (sym e) (insert_tells K B a b)

  pub null_clash : (B : Basis F) (a : List F) (b : F) → clash ≡ insert K B a b → (x : List F) → Null K B x → dot K a x ≡ zer
  null_clash B a b e = subst (Tells K B a) (sym e) (insert_tells K B a b)
