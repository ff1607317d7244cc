-- The solutions of a system stand with the lesser first.
use Rattle.std.proofs.Common.{◌≡◌, ℕ, zero, suc, ◌<◌, Bool, true, false, ◌⊎◌, List, [], ◌∷◌, map, refl, ap, subst, inl, inr, arith}
use Rattle.sets.specs.Lists.{In}
use Rattle.sets.specs.Sets.{has}
use Rattle.sets.proofs.Lists.{of_map}
use Rattle.linear.specs.Subsets.{subsets, explains}
use Rattle.linear.proofs.Sorted.{Sorted, sorted_append, sorted_map, sorted_keep}
use Rattle.rules.specs.Systems.{rows, solutions, Lesser}
use Rattle.rules.specs.Companions.{LeastFirst}

lesser_more : (b : Bool) (x y : List Bool) → Lesser x y → Lesser (b ∷ x) (b ∷ y)
lesser_more b x y h =
    record {
      at_place = suc h.at_place;
      lacks = h.lacks;
      holds = h.holds;
      below = λ j. below j;
    }
  where
    below : (j : ℕ) → j < suc h.at_place → has (b ∷ x) j ≡ has (b ∷ y) j
    below zero k = refl
    below (suc j) k = let k' : j < h.at_place = omega arith in h.below j k'

sorted_subsets : (m : List Bool) → Sorted Lesser (subsets m)
sorted_subsets [] = (λ y h. absurd h, tt)
sorted_subsets (true ∷ m) =
    sorted_append Lesser (map (λ x. false ∷ x) (subsets m)) (map (λ x. true ∷ x) (subsets m))
    (sorted_map Lesser Lesser (λ x. false ∷ x) (subsets m) (λ x y _ _ h. lesser_more false x y h) (sorted_subsets m))
    (sorted_map Lesser Lesser (λ x. true ∷ x) (subsets m) (λ x y _ _ h. lesser_more true x y h) (sorted_subsets m))
    (λ x y a b. cross x y (of_map (λ x. false ∷ x) x (subsets m) a) (of_map (λ x. true ∷ x) y (subsets m) b))
  where
    cross : (x y : List Bool) → (u : List Bool) × In u (subsets m) × (x ≡ false ∷ u) → (v : List Bool) × In v (subsets m) × (y ≡ true ∷ v) → Lesser x y
    cross x y p q = record { at_place = 0; lacks = ap (λ t. has t 0) p.2; holds = ap (λ t. has t 0) q.2; below = λ j k. absurd (omega arith) }
sorted_subsets (false ∷ m) = sorted_map Lesser Lesser (λ x. false ∷ x) (subsets m) (λ x y _ _ h. lesser_more false x y h) (sorted_subsets m)

pub least_first : LeastFirst
least_first C K A s z found e x m = go (solutions C K A s) e (sorted_keep Lesser (explains (rows C A s)) (subsets K) (sorted_subsets K)) m
  where
    go : (l : List (List Bool)) → l ≡ z ∷ found → Sorted Lesser l → In x l → (x ≡ z) ⊎ Lesser z x
    go l q h k = elim (subst (In x) q k) [ inl p ↦ inl p | inr p ↦ inr ((subst (Sorted Lesser) q h).0 x p) ]
