-- A row goes into a basis: what solves the new one.
use mathlib.Core.Path.{◌≡◌, refl, sym, ap, ◌∙◌}
use mathlib.Core.Logic.{◌↔◌}
use mathlib.Core.Bool.{Bool, true, false}
use mathlib.Core.List.{List, [], ◌∷◌, map}
use Prim.Native.Nat.{suc}
use Rattle.linear.specs.Field.{Field}
use Rattle.linear.specs.Basis.{Basis, done, free, lead, Insertion, grown, known, clash, under, ended, at_free, slack, width}
use Rattle.linear.specs.Basis.{hd, tl, dot, mix, insert, Says}
use Rattle.linear.specs.Theorems.{Grows}
use Rattle.linear.proofs.Algebra.{zer_add, zer_mul, reduce, divide, is_not, inverts, dot_mix, dot_scale}

module _ {F : Type 0} (K : Field F) where
  open K use {zer, one, add, mul, neg, inv, is, is_refl, is_eq}

  -- A row (a, b) with a first unknown x, and one (a', b') without, that say the same where R x xs holds
  abbrev Alike : (R : F → List F → Type 0) → List F → F → List F → F → Type 0
  Alike R a b a' b' = (x : F) (xs : List F) → R x xs → (dot K a' xs ≡ b') ↔ (dot K a (x ∷ xs) ≡ b)

  on_free : (B : Basis F) (a : List F) (b : F) → Alike (λ x xs. Unit {0}) a b (tl K a) b
      → (o : Insertion F) → Says K B (tl K a) b o → Says K (free B) a b (under free o)
  on_free B a b same (grown B') says =
      elim [
        | [] ↦ (λ n. absurd n, λ p. absurd p.0)
        | x ∷ xs ↦ (λ h. let p = (says xs).0 h in (p.0, (same x xs tt).0 p.1), λ p. (says xs).1 (p.0, (same x xs tt).1 p.1))
      ]
  on_free B a b same known says = elim [ [] ↦ λ h. absurd h | x ∷ xs ↦ λ h. (same x xs tt).0 (says xs h) ]
  on_free B a b same clash says = elim [ [] ↦ λ h e. h | x ∷ xs ↦ λ h e. says xs h ((same x xs tt).1 e) ]

  on_lead : (r : List F) (s : F) (B : Basis F) (a : List F) (b : F) (a' : List F) (b' : F)
      → Alike (λ x xs. add x (dot K r xs) ≡ s) a b a' b'
      → (o : Insertion F) → Says K B a' b' o → Says K (lead r s B) a b (under (lead r s) o)
  on_lead r s B a b a' b' same (grown B') says =
      elim [
        | [] ↦ (λ n. absurd n, λ p. absurd p.0)
        | x ∷ xs ↦ (
          λ h. let p = (says xs).0 h.1 in ((h.0, p.0), (same x xs h.0).0 p.1),
          λ p. (p.0.0, (says xs).1 (p.0.1, (same x xs p.0.0).1 p.1)),
        )
      ]
  on_lead r s B a b a' b' same known says = elim [ [] ↦ λ h. absurd h | x ∷ xs ↦ λ h. (same x xs h.0).0 (says xs h.1) ]
  on_lead r s B a b a' b' same clash says = elim [ [] ↦ λ h e. h | x ∷ xs ↦ λ h e. says xs h.1 ((same x xs h.0).1 e) ]

  at_end : (a : List F) (b : F) (t : Bool) → is b zer ≡ t → Says K done a b (ended t)
  at_end a b true e = elim [ [] ↦ λ h. sym (is_eq b zer e) | x ∷ xs ↦ λ h. absurd h ]
  at_end a b false e = elim [ [] ↦ λ h q. is_not K b zer e (sym q) | x ∷ xs ↦ λ h q. h ]

  no_first : (a : List F) (x : F) (xs : List F) → hd K a ≡ zer → dot K (tl K a) xs ≡ dot K a (x ∷ xs)
  no_first a x xs e = sym (ap (λ t. add (mul t x) (dot K (tl K a) xs)) e ∙ ap (λ t. add t (dot K (tl K a) xs)) (zer_mul K x) ∙ zer_add K (dot K (tl K a) xs))

  at_free_lem : (B : Basis F) (a : List F) (b : F) (t : Bool) → is (hd K a) zer ≡ t → (o : Insertion F) → Says K B (tl K a) b o
      → Says K (free B) a b (at_free t o (lead (map (mul (inv (hd K a))) (tl K a)) (mul (inv (hd K a)) b) B))
  at_free_lem B a b true e o says =
      on_free B a b (λ x xs _. (λ h. sym (no_first a x xs (is_eq (hd K a) zer e)) ∙ h, λ h. no_first a x xs (is_eq (hd K a) zer e) ∙ h)) o says
  at_free_lem B a b false e o says =
      let c : F = hd K a in
      let k : F = inv c in
      elim [
        | [] ↦ (λ n. absurd n, λ p. absurd p.0)
        | x ∷ xs ↦
            let d : F = dot K (tl K a) xs in
            let iff : (add x (mul k d) ≡ mul k b) ↔ (add (mul c x) d ≡ b) = divide K c k x d b (inverts K c (is_not K c zer e)) in (
              λ h. (h.1, iff.0 (ap (add x) (sym (dot_scale K k (tl K a) xs)) ∙ h.0)),
              λ p. (ap (add x) (dot_scale K k (tl K a) xs) ∙ iff.1 p.1, p.0),
            )
      ]

  pub insert_says : (B : Basis F) (a : List F) (b : F) → Says K B a b (insert K B a b)
  insert_says done a b = at_end a b (is b zer) refl
  insert_says (free B) a b = at_free_lem B a b (is (hd K a) zer) refl (insert K B (tl K a) b) (insert_says B (tl K a) b)
  insert_says (lead r s B) a b =
      let c : F = hd K a in
      let a' : List F = mix K (neg c) r (tl K a) in
      let b' : F = add b (mul (neg c) s) in
      on_lead r s B a b a' b' same (insert K B a' b') (insert_says B a' b')
    where
      same : Alike (λ x xs. add x (dot K r xs) ≡ s) a b (mix K (neg (hd K a)) r (tl K a)) (add b (mul (neg (hd K a)) s))
      same x xs h =
          let iff = reduce K (hd K a) x (dot K (tl K a) xs) (dot K r xs) b s h in
          (λ e. iff.0 (sym (dot_mix K (neg (hd K a)) r (tl K a) xs) ∙ e), λ e. dot_mix K (neg (hd K a)) r (tl K a) xs ∙ iff.1 e)

  grows_under : (f : Basis F → Basis F) (B : Basis F) → ((C : Basis F) → suc (slack C) ≡ slack B → suc (slack (f C)) ≡ slack (f B))
      → ((C : Basis F) → width C ≡ width B → width (f C) ≡ width (f B)) → (o : Insertion F) → Grows K B o → Grows K (f B) (under f o)
  grows_under f B s w (grown C) g = (s C g.0, w C g.1)
  grows_under f B s w known g = tt
  grows_under f B s w clash g = tt

  grows_end : (t : Bool) → Grows K done (ended t)
  grows_end true = tt
  grows_end false = tt

  grows_free : (t : Bool) (o : Insertion F) (r : List F) (s : F) (B : Basis F) → Grows K B o → Grows K (free B) (at_free t o (lead r s B))
  grows_free true o r s B g = grows_under free B (λ C e. ap suc e) (λ C e. ap suc e) o g
  grows_free false o r s B g = (refl, refl)

  pub insert_grows : (B : Basis F) (a : List F) (b : F) → Grows K B (insert K B a b)
  insert_grows done a b = grows_end (is b zer)
  insert_grows (free B) a b = grows_free (is (hd K a) zer) (insert K B (tl K a) b) (map (mul (inv (hd K a))) (tl K a)) (mul (inv (hd K a)) b) B (insert_grows B (tl K a) b)
  insert_grows (lead r s B) a b =
      grows_under (lead r s) B (λ C e. e) (λ C e. ap suc e) (insert K B (mix K (neg (hd K a)) r (tl K a)) (add b (mul (neg (hd K a)) s)))
      (insert_grows B (mix K (neg (hd K a)) r (tl K a)) (add b (mul (neg (hd K a)) s)))
