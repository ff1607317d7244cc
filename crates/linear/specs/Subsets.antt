-- Systems over bits: subsets of the unknowns, and whether one puts an odd number into exactly the odd rows.
use Rattle.std.specs.Prelude.{Bool, true, false, ◌&&◌, List, [], ◌∷◌, ◌++◌, map}
use Rattle.sets.specs.Bits.{alike}
use Rattle.sets.specs.Sets.{odd}
use Rattle.linear.specs.System.{Row}

-- all subsets of a mask, the lesser first: the lowest number decides, and to lack it is less
abbrev pub subsets : List Bool → List (List Bool)
subsets [] = [] ∷ []
subsets (true ∷ m) = map (λ x. false ∷ x) (subsets m) ++ map (λ x. true ∷ x) (subsets m)
subsets (false ∷ m) = map (λ x. false ∷ x) (subsets m)

-- whether x has an odd number of elements in each row whose right side is true, and an even number in each other
abbrev pub explains : List (Row Bool) → List Bool → Bool
explains [] x = true
explains (r ∷ rows) x = alike (odd r.left x) r.right && explains rows x
