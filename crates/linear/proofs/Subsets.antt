-- For bits, the choices of a mask are its subsets, and the solutions are the subsets that put an odd number into exactly the odd checks.
use mathlib.Core.Path.{◌≡◌, refl, ap, ◌∙◌, fun_ext}
use mathlib.Core.Bool.{Bool, true, false, ◌&&◌}
use mathlib.Core.List.{List, [], ◌∷◌, ◌++◌, map, append-nil}
use Rattle.sets.specs.Bits.{alike, flip}
use Rattle.sets.specs.Sets.{odd}
use Rattle.linear.specs.Field.{bits}
use Rattle.linear.specs.Basis.{dot}
use Rattle.linear.specs.System.{Row, keep, choices, solutions, meets}
use Rattle.linear.specs.Subsets.{subsets, explains}
use Rattle.linear.proofs.Algebra.{dot_nil}

pub choices_subsets : (m : List Bool) → choices bits m ≡ subsets m
choices_subsets [] = refl
choices_subsets (true ∷ m) =
    ap (λ t. map (λ x. false ∷ x) (choices bits m) ++ t) (append-nil (map (λ x. true ∷ x) (choices bits m)))
    ∙ ap (λ t. map (λ x. false ∷ x) t ++ map (λ x. true ∷ x) t) (choices_subsets m)
choices_subsets (false ∷ m) = ap (map (λ x. false ∷ x)) (choices_subsets m)

pub dot_odd : (c x : List Bool) → dot bits c x ≡ odd c x
dot_odd [] [] = refl
dot_odd [] (x ∷ xs) = dot_nil bits (x ∷ xs)
dot_odd (c ∷ cs) [] = refl
dot_odd (c ∷ cs) (x ∷ xs) = ap (flip (c && x)) (dot_odd cs xs)

pub meets_explains : (rows : List (Row Bool)) (x : List Bool) → meets bits rows x ≡ explains rows x
meets_explains [] x = refl
meets_explains (r ∷ rows) x =
    ap (λ t. alike t r.right && meets bits rows x) (dot_odd r.left x)
    ∙ ap (λ t. alike (odd r.left x) r.right && t) (meets_explains rows x)

pub solutions_subsets : (m : List Bool) (rows : List (Row Bool)) → solutions bits m rows ≡ keep (explains rows) (subsets m)
solutions_subsets m rows = ap (λ p. keep p (choices bits m)) (fun_ext (meets_explains rows)) ∙ ap (keep (explains rows)) (choices_subsets m)
