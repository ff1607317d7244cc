-- Linear systems over a finite field: rows, a basis in echelon form, how a row goes into it, and what it says of the solutions.
-- A vector is a list, its first element the highest-numbered unknown. Coefficients past the end of a list are zero.
use Rattle.std.specs.Prelude.{◌≡◌, ◌⊎◌, ◌↔◌, ◌≢◌, Bool, true, false, cond, List, [], ◌∷◌, map, ℕ, suc, ◌<◌}
use Rattle.sets.specs.Lists.{flat}
use Rattle.linear.specs.Field.{Field}

-- For each column, from the highest-numbered unknown down: no row, or a row whose leading coefficient is 1 at that column,
-- with its coefficients at the columns below and its right side
pub data Basis (F : Type 0) : Type 0 where
  done : Basis F
  free : Basis F → Basis F
  lead : List F → F → Basis F → Basis F

-- What comes of a row: a larger basis; nothing new; or a contradiction
pub data Insertion (F : Type 0) : Type 0 where
  grown : Basis F → Insertion F
  known : Insertion F
  clash : Insertion F

module _ {F : Type 0} where
  -- the number of columns
  abbrev pub width : Basis F → ℕ
  width done = 0
  width (free B) = suc (width B)
  width (lead r s B) = suc (width B)

  -- the number of free columns, those with no row: each is an unknown that may be chosen
  abbrev pub slack : Basis F → ℕ
  slack done = 0
  slack (free B) = suc (slack B)
  slack (lead r s B) = slack B

  -- what came of the columns below, with one column put back
  abbrev pub under : (Basis F → Basis F) → Insertion F → Insertion F
  under f (grown B) = grown (f B)
  under f known = known
  under f clash = clash

  -- a row that vanished is known if its right side is zero too
  abbrev pub ended : Bool → Insertion F
  ended true = known
  ended false = clash

  -- at a free column a row that is zero there goes on, and any other takes the column
  abbrev pub at_free : Bool → Insertion F → Basis F → Insertion F
  at_free true o B = under free o
  at_free false o B = grown B

-- no row at all, over n columns
abbrev pub empty : {F : Type 0} → ℕ → Basis F
empty ℕ.zero = done
empty (suc n) = free (empty n)

module _ {F : Type 0} (K : Field F) where
  open K use {zer, one, add, mul, neg, inv, is, rest}

  -- the first coefficient, and the others
  abbrev pub hd : List F → F
  hd [] = zer
  hd (c ∷ a) = c

  abbrev pub tl : List F → List F
  tl [] = []
  tl (c ∷ a) = a

  -- what a row's left side is at the vector x
  abbrev pub dot : List F → List F → F
  dot a [] = zer
  dot a (x ∷ xs) = add (mul (hd a) x) (dot (tl a) xs)

  -- a + k · r
  abbrev pub mix : F → List F → List F → List F
  mix k [] a = a
  mix k (y ∷ r) a = add (hd a) (mul k y) ∷ mix k r (tl a)

  -- x has a value for each column, and meets each row
  abbrev pub Sol : Basis F → List F → Type 0
  Sol done [] = Unit {0}
  Sol done (x ∷ xs) = ⊥
  Sol (free B) [] = ⊥
  Sol (free B) (x ∷ xs) = Sol B xs
  Sol (lead r s B) [] = ⊥
  Sol (lead r s B) (x ∷ xs) = (add x (dot r xs) ≡ s) × Sol B xs

  -- the row with coefficients a and right side b, reduced from the head down, goes into the basis
  abbrev pub insert : Basis F → List F → F → Insertion F
  insert done a b = ended (is b zer)
  insert (free B) a b =
      at_free (is (hd a) zer) (insert B (tl a) b) (lead (map (mul (inv (hd a))) (tl a)) (mul (inv (hd a)) b) B)
  insert (lead r s B) a b =
      under (lead r s) (insert B (mix (neg (hd a)) r (tl a)) (add b (mul (neg (hd a)) s)))

  -- what an insertion of the row (a, b) into B says
  abbrev pub Says : Basis F → List F → F → Insertion F → Type 0
  Says B a b (grown B') = (x : List F) → Sol B' x ↔ (Sol B x × (dot a x ≡ b))
  Says B a b known = (x : List F) → Sol B x → dot a x ≡ b
  Says B a b clash = (x : List F) → Sol B x → dot a x ≢ b

  -- all solutions: the lowest-numbered unknown is the most significant
  abbrev pub all : Basis F → List (List F)
  all done = [] ∷ []
  all (free B) = flat (λ xs. map (λ v. v ∷ xs) (zer ∷ rest)) (all B)
  all (lead r s B) = map (λ xs. add s (neg (dot r xs)) ∷ xs) (all B)

  -- every free unknown zero
  abbrev pub least : Basis F → List F
  least done = []
  least (free B) = zer ∷ least B
  least (lead r s B) = add s (neg (dot r (least B))) ∷ least B

  -- the place of a value among the values
  abbrev pub place_in : F → List F → ℕ
  place_in v [] = 0
  place_in v (w ∷ ws) = cond (is v w) 0 (suc (place_in v ws))

  abbrev pub place : F → ℕ
  place v = place_in v (zer ∷ rest)

  -- x comes before y: at the lowest-numbered unknown (the last in the list) at which they differ, x has the lesser value
  abbrev pub Before : List F → List F → Type 0
  Before [] y = ⊥
  Before (a ∷ x) [] = ⊥
  Before (a ∷ x) (b ∷ y) = Before x y ⊎ ((x ≡ y) × (place a < place b))
