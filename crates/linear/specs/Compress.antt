-- Only the unknowns that a mask names: a vector over those, put back among all; and a row's coefficients at those.
use Rattle.std.specs.Prelude.{Bool, true, false, List, [], ◌∷◌}
use Rattle.linear.specs.Field.{Field}
use Rattle.linear.specs.Basis.{hd, tl}
use Rattle.linear.specs.System.{Row}

-- as many trues as the mask has
abbrev pub trues : List Bool → List Bool
trues [] = []
trues (true ∷ m) = true ∷ trues m
trues (false ∷ m) = trues m

module _ {F : Type 0} (K : Field F) where
  open K use {zer}

  -- a vector over the mask's own unknowns, put back among all
  abbrev pub expand : List Bool → List F → List F
  expand [] y = []
  expand (true ∷ m) y = hd K y ∷ expand m (tl K y)
  expand (false ∷ m) y = zer ∷ expand m y

  -- a row's coefficients at the mask's unknowns
  abbrev pub compress : List Bool → List F → List F
  compress [] a = []
  compress (true ∷ m) a = hd K a ∷ compress m (tl K a)
  compress (false ∷ m) a = compress m (tl K a)

  abbrev pub compress_row : List Bool → Row F → Row F
  compress_row m r = record { left = compress m r.left; right = r.right }
