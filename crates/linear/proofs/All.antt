-- The solutions of a basis, listed and counted.
use mathlib.Core.Path.{◌≡◌, refl, sym, ap, ◌∙◌, subst}
use mathlib.Core.Logic.{inl, inr}
use mathlib.Core.List.{List, [], ◌∷◌, map}
use Prim.Native.Nat.{ℕ, ◌*◌, ◌^◌}
use native.Mathlib.Nat.{pow-zero, pow-suc}
use lib.ListN.{length, length-map}
use Rattle.sets.specs.Lists.{In, Lists, Exactly, flat}
use Rattle.linear.specs.Field.{Field}
use Rattle.linear.specs.Basis.{Basis, done, free, lead, slack, dot, Sol, all}
use Rattle.sets.proofs.Lists.{in_cast, in_map, of_map, distinct_map, in_flat, of_flat, distinct_flat, length_flat}
use Rattle.linear.proofs.Algebra.{leave, left_of_lem}

abbrev hd_of : {F : Type 0} → F → List F → F
hd_of d [] = d
hd_of d (x ∷ xs) = x

abbrev tl_of : {F : Type 0} → List F → List F
tl_of [] = []
tl_of (x ∷ xs) = xs

module _ {F : Type 0} (K : Field F) where
  open K use {zer, one, add, mul, neg, inv, is, rest, distinct, complete}

  abbrev each : List F → List (List F)
  each xs = map (λ v. v ∷ xs) (zer ∷ rest)

  abbrev fill : List F → F → List F → List F
  fill r s xs = add s (neg (dot K r xs)) ∷ xs

  all_done : Lists (Sol K done) ([] ∷ [])
  all_done = record { distinct = (λ m. m, tt); sound = λ x m. elim m [ inl e ↦ subst (Sol K done) (sym e) tt | inr n ↦ absurd n ]; complete = elim [ [] ↦ λ h. inl refl | x ∷ xs ↦ λ h. absurd h ] }

  all_free : (B : Basis F) (l : List (List F)) → Lists (Sol K B) l → Lists (Sol K (free B)) (flat each l)
  all_free B l L =
      record {
        distinct = distinct_flat l (λ xs m. each xs) L.distinct (λ xs m. distinct_map (λ v. v ∷ xs) (zer ∷ rest) (λ v w _ _ e. ap (hd_of zer) e) distinct) (λ xs ys m n y h k. same xs ys y h k);
        sound = λ x h. let r = of_flat x l (λ xs m. each xs) h in let q = of_map (λ v. v ∷ r.0) x (zer ∷ rest) r.2 in subst (Sol K (free B)) (sym q.2) (L.sound r.0 r.1);
        complete = elim [ [] ↦ λ h. absurd h | v ∷ xs ↦ λ h. in_flat (v ∷ xs) xs l (λ ys m. each ys) (L.complete xs h) (λ m. in_map (λ w. w ∷ xs) v (zer ∷ rest) (complete v)) ];
      }
    where
      same : (xs ys y : List F) → In y (each xs) → In y (each ys) → xs ≡ ys
      same xs ys y h k = let p = of_map (λ v. v ∷ xs) y (zer ∷ rest) h in let q = of_map (λ v. v ∷ ys) y (zer ∷ rest) k in ap tl_of (sym p.2 ∙ q.2)

  all_lead : (r : List F) (s : F) (B : Basis F) (l : List (List F)) → Lists (Sol K B) l → Lists (Sol K (lead r s B)) (map (fill r s) l)
  all_lead r s B l L =
      record {
        distinct = distinct_map (fill r s) l (λ x y _ _ e. ap tl_of e) L.distinct;
        sound = λ x h. let q = of_map (fill r s) x l h in subst (Sol K (lead r s B)) (sym q.2) (leave K s (dot K r q.0), L.sound q.0 q.1);
        complete = elim [ [] ↦ λ h. absurd h | x ∷ xs ↦ λ h. in_cast (map (fill r s) l) (ap (λ t. t ∷ xs) (left_of_lem K x (dot K r xs) s h.0)) (in_map (fill r s) xs l (L.complete xs h.1)) ];
      }

  pub all_lists : (B : Basis F) → Lists (Sol K B) (all K B)
  all_lists done = all_done
  all_lists (free B) = all_free B (all K B) (all_lists B)
  all_lists (lead r s B) = all_lead r s B (all K B) (all_lists B)

  pub length_all : (B : Basis F) → length (all K B) ≡ length (zer ∷ rest) ^ slack B
  length_all done = sym (pow-zero (length (zer ∷ rest)))
  length_all (free B) =
      length_flat (length (zer ∷ rest)) (all K B) (λ xs m. each xs) (λ xs m. length-map (zer ∷ rest) (λ v. v ∷ xs))
      ∙ ap (λ (n : ℕ). n * length (zer ∷ rest)) (length_all B)
      ∙ sym (pow-suc (length (zer ∷ rest)) (slack B))
  length_all (lead r s B) = length-map (all K B) (fill r s) ∙ length_all B

  -- exactly (number of values) ^ slack vectors solve a basis
  pub solutions_exactly : (B : Basis F) → Exactly (length (zer ∷ rest) ^ slack B) (Sol K B)
  solutions_exactly B = record { all = all K B; lists = all_lists B; count = length_all B }
