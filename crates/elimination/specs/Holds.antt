-- When an elimination holds a system.
use Rattle.std.specs.Prelude.{◌≡◌, ℕ, suc, Bool, true, false, ◌↔◌, List, [], ◌∷◌, map, length, take, replicate, vec_items}
use Rattle.std.proofs.Math.Option.{Option, none, some}
use Rattle.linear.specs.Field.{Field}
use Rattle.linear.specs.Basis.{Basis, dot}
use Rattle.linear.specs.System.{Row, rev, rev_row, Wide, solve}
use Rattle.linear.specs.Theorems.{Null}
use Rattle.elimination.specs.Table.{basis_of}
use Rattle.elimination.specs.declared.Elimination.{Elimination}

module _ {F : Type 0} (K : Field F) where
  open K use {zer}

  -- x is zero on every row's left side
  abbrev pub Zeros : List (Row F) → List F → Type 0
  Zeros [] x = Unit {0}
  Zeros (r ∷ rows) x = (dot K r.left x ≡ zer) × Zeros rows x

  -- the basis of a system, or that it has none
  abbrev pub Found : Bool → Basis F → Option (Basis F) → Type 0
  Found true B o = o ≡ none
  Found false B o = o ≡ some B

  -- the system of these rows over n unknowns stands in the table t, which has a contradiction or not, and the check `written` in the row r
  pub record Stands (n : ℕ) (rows : List (Row F)) (written : List F) (contradicts : Bool) (t r : List F) : Type 0 where
    pub wide : Wide n rows
    pub long : length written ≡ n
    pub row : take (suc n) r ≡ zer ∷ rev written
    pub found : Found contradicts (basis_of K n t) (solve K (replicate n true) rows)
    pub nulls : (x : List F) → Null K (basis_of K n t) x ↔ ((length x ≡ n) × Zeros (map rev_row rows) x)

  -- the elimination holds the system of these rows over n unknowns, and the check `written` is being written
  pub record Holds (e : Elimination F) (n : ℕ) (rows : List (Row F)) (written : List F) : Type 0 where
    pub unknowns : e.echelon.width ≡ n
    pub stands : Stands n rows written e.contradicts (vec_items e.echelon.cells) (vec_items e.row)

  -- of the system that the elimination holds, and of the check that is being written
  abbrev pub WhereHeld : Elimination F → (ℕ → List (Row F) → List F → Type 0) → Type 0
  WhereHeld e P = (n : ℕ) (rows : List (Row F)) (written : List F) → Holds e n rows written → P n rows written

-- the solution that was found last
abbrev pub solution : {F : Type 0} → Elimination F → List F
solution e = take e.echelon.width (vec_items e.least)
