-- A system as it is stated: unknowns in ascending order, of which a mask says which may be other than zero, and checks.
-- Its solutions are those of all the choices that meet every check, in order; and how a basis answers for it.
use Rattle.std.specs.Prelude.{◌≡◌, ◌⊎◌, Bool, true, false, ◌&&◌, List, [], ◌∷◌, ◌++◌, map, ℕ, ◌<◌, length}
use Rattle.std.proofs.Math.Option.{Option, none, some}
use Rattle.sets.specs.Lists.{flat}
use Rattle.linear.specs.Field.{Field}
use Rattle.linear.specs.Basis.{Basis, done, free, lead, Insertion, grown, known, clash, dot, insert, place}

-- coefficients and a right side
pub record Row (F : Type 0) : Type 0 where
  pub left : List F
  pub right : F

-- turned round
abbrev pub rev : {X : Type 0} → List X → List X
rev [] = []
rev (x ∷ xs) = rev xs ++ (x ∷ [])

abbrev pub rev_row : {F : Type 0} → Row F → Row F
rev_row r = record { left = rev r.left; right = r.right }

abbrev pub keep_if : {X : Type 0} → Bool → X → List X → List X
keep_if true x l = x ∷ l
keep_if false x l = l

-- what passes the test, in order
abbrev pub keep : {X : Type 0} → (X → Bool) → List X → List X
keep p [] = []
keep p (x ∷ l) = keep_if (p x) x (keep p l)

-- each row has n coefficients
abbrev pub Wide : {F : Type 0} → ℕ → List (Row F) → Type 0
Wide n [] = Unit {0}
Wide n (r ∷ rows) = (length r.left ≡ n) × Wide n rows

-- how it goes on after a row
abbrev pub after : {F : Type 0} → Insertion F → Basis F → (Basis F → Option (Basis F)) → Option (Basis F)
after (grown C) B next = next C
after known B next = next B
after clash B next = none

module _ {F : Type 0} (K : Field F) where
  open K use {zer, one, add, mul, neg, inv, is, rest}

  -- x meets every row; and the test for it
  abbrev pub Meets : List (Row F) → List F → Type 0
  Meets [] x = Unit {0}
  Meets (r ∷ rows) x = (dot K r.left x ≡ r.right) × Meets rows x

  abbrev pub meets : List (Row F) → List F → Bool
  meets [] x = true
  meets (r ∷ rows) x = is (dot K r.left x) r.right && meets rows x

  -- every vector that is zero where the mask is false: the first unknown is the most significant, and zero comes first
  abbrev pub choices : List Bool → List (List F)
  choices [] = [] ∷ []
  choices (true ∷ m) = flat (λ v. map (λ x. v ∷ x) (choices m)) (zer ∷ rest)
  choices (false ∷ m) = map (λ x. zer ∷ x) (choices m)

  -- the choices that meet every row
  abbrev pub solutions : List Bool → List (Row F) → List (List F)
  solutions m rows = keep (meets rows) (choices m)

  -- one row after another goes into the basis
  abbrev pub absorb : Basis F → List (Row F) → Option (Basis F)
  absorb B [] = some B
  absorb B (r ∷ rows) = after (insert K B r.left r.right) B (λ C. absorb C rows)

  -- the basis that says only that an unknown is zero where the mask is false
  abbrev pub start : List Bool → Basis F
  start [] = done
  start (true ∷ m) = free (start m)
  start (false ∷ m) = lead [] zer (start m)

  -- the basis of a system; its first column is the last unknown
  abbrev pub solve : List Bool → List (Row F) → Option (Basis F)
  solve m rows = absorb (start (rev m)) (map rev_row rows)

  -- x comes before y: at the first unknown at which they differ, x has the lesser value
  abbrev pub Lex : List F → List F → Type 0
  Lex [] y = ⊥
  Lex (a ∷ x) [] = ⊥
  Lex (a ∷ x) (b ∷ y) = (place K a < place K b) ⊎ ((a ≡ b) × Lex x y)
