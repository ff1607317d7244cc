-- The list of the sets that hold q names each of them, once.
use Rattle.std.proofs.Common.{◌≡◌, ℕ, Bool, List, map, refl, ◌∙◌}
use Rattle.sets.specs.Lists.{Distinct}
use Rattle.sets.specs.Sets.{has, row, elements, among}
use Rattle.sets.proofs.Bits.{same}
use Rattle.sets.proofs.Numbers.{among_in, in_among, elements_distinct, has_element, element_has}
use Rattle.sets.proofs.Sets.{has_mapped}

pub among_elements : (m : List Bool) (k : ℕ) → among k (elements m) ≡ has m k
among_elements m k = same (among k (elements m)) (has m k) (λ h. element_has m k (among_in k (elements m) h)) (λ h. in_among k (elements m) (has_element m k h))

module _ (sets : List (List Bool)) (q : ℕ) where
  pub holders_once : Distinct (elements (map (λ s. has s q) sets))
  holders_once = elements_distinct 0 (map (λ s. has s q) sets)

  pub holders_named : (k : ℕ) → among k (elements (map (λ s. has s q) sets)) ≡ has (row sets k) q
  holders_named k = among_elements (map (λ s. has s q) sets) k ∙ has_mapped (λ s. has s q) refl sets k
