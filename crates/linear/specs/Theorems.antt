-- What is proved over any finite field. F is the type of its values.
use Rattle.std.specs.Prelude.{◌≡◌, ◌⊎◌, ◌↔◌, ◌≢◌, Bool, true, List, [], ◌∷◌, map, ℕ, suc, ◌*◌, ◌^◌, length}
use Rattle.std.proofs.Math.Option.{Option, none, some}
use Rattle.sets.specs.Lists.{Lists, Exactly}
use Rattle.linear.specs.Field.{Field, bits}
use Rattle.linear.specs.Basis.{Basis, done, free, lead, Insertion, grown, known, clash, slack, width, dot, Sol, insert, Says, all, least, Before}
use Rattle.linear.specs.System.{Row, rev, keep, Wide, Meets, solutions, absorb, solve}
use Rattle.linear.specs.Subsets.{subsets, explains}
use Rattle.linear.specs.Compress.{trues, expand, compress_row}
use Rattle.linear.specs.Three.{three, Z, O, T}

module _ {F : Type 0} (K : Field F) where
  open K use {zer, add, rest}

  -- a grown basis is as wide, and has one free column less
  abbrev pub Grows : Basis F → Insertion F → Type 0
  Grows B (grown B') = (suc (slack B') ≡ slack B) × (width B' ≡ width B)
  Grows B known = Unit {0}
  Grows B clash = Unit {0}

  -- x is zero on every row's left side
  abbrev pub Null : Basis F → List F → Type 0
  Null done [] = Unit {0}
  Null done (x ∷ xs) = ⊥
  Null (free B) [] = ⊥
  Null (free B) (x ∷ xs) = Null B xs
  Null (lead r s B) [] = ⊥
  Null (lead r s B) (x ∷ xs) = (add x (dot K r xs) ≡ zer) × Null B xs

  -- whether the row a is independent of the basis: some vector is zero on every left side and not on a
  abbrev pub Tells : Basis F → List F → Insertion F → Type 0
  Tells B a (grown B') = (x : List F) × Null B x × (dot K a x ≢ zer)
  Tells B a known = (x : List F) → Null B x → dot K a x ≡ zer
  Tells B a clash = (x : List F) → Null B x → dot K a x ≡ zer

  -- what one row after another comes to: no solution, or a basis with the same solutions
  abbrev pub Absorbed : Basis F → List (Row F) → Option (Basis F) → Type 0
  Absorbed B rows none = (x : List F) → Sol K B x → Meets K rows x → ⊥
  Absorbed B rows (some C) = (x : List F) → Sol K C x ↔ (Sol K B x × Meets K rows x)

  -- of a system as it is stated: the least of its solutions, and their number
  abbrev pub Told : List Bool → List (Row F) → Option (Basis F) → Type 0
  Told m rows none = solutions K m rows ≡ []
  Told m rows (some B) =
      ((t : List (List F)) × (solutions K m rows ≡ rev (least K B) ∷ t))
      × (length (solutions K m rows) ≡ length (zer ∷ rest) ^ slack B)

-- x solves the new basis exactly if it solves the old one and the row; a known row adds nothing; with a clash nothing solves both
abbrev pub InsertionKeeps : Type 0 → Type 0
InsertionKeeps F = (K : Field F) (B : Basis F) (a : List F) (b : F) → Says K B a b (insert K B a b)

abbrev pub InsertionGrows : Type 0 → Type 0
InsertionGrows F = (K : Field F) (B : Basis F) (a : List F) (b : F) → Grows K B (insert K B a b)

-- a row makes the basis grow exactly if it is independent of the rows that are there
abbrev pub Independence : Type 0 → Type 0
Independence F = (K : Field F) (B : Basis F) (a : List F) (b : F) → Tells K B a (insert K B a b)

abbrev pub RowsAbsorbed : Type 0 → Type 0
RowsAbsorbed F = (K : Field F) (B : Basis F) (rows : List (Row F)) → Absorbed K B rows (absorb K B rows)

abbrev pub AllListed : Type 0 → Type 0
AllListed F = (K : Field F) (B : Basis F) → Lists (Sol K B) (all K B)

-- exactly (number of values) ^ slack
abbrev pub Counted : Type 0 → Type 0
Counted F = (K : Field F) (B : Basis F) → Exactly (length (K.zer ∷ K.rest) ^ slack B) (Sol K B)

abbrev pub LeastSolves : Type 0 → Type 0
LeastSolves F = (K : Field F) (B : Basis F) → Sol K B (least K B)

abbrev pub LeastFirst : Type 0 → Type 0
LeastFirst F = (K : Field F) (B : Basis F) (x : List F) → Sol K B x → (x ≡ least K B) ⊎ Before K (least K B) x

abbrev pub LeastAlone : Type 0 → Type 0
LeastAlone F = (K : Field F) (B : Basis F) (y : List F) → Sol K B y → ((x : List F) → Sol K B x → (x ≡ y) ⊎ Before K y x) → y ≡ least K B

abbrev pub SystemTold : Type 0 → Type 0
SystemTold F = (K : Field F) (m : List Bool) (rows : List (Row F)) → Wide (length m) rows → Told K m rows (solve K m rows)

abbrev pub Compressed : Type 0 → Type 0
Compressed F = (K : Field F) (m : List Bool) (rows : List (Row F)) → solutions K m rows ≡ map (expand K m) (solutions K (trues m) (map (compress_row K m) rows))

-- over bits: the subsets that put an odd number into exactly the checks whose right side is odd
abbrev pub BitsAreSubsets : Type 0
BitsAreSubsets = (m : List Bool) (rows : List (Row Bool)) → solutions bits m rows ≡ keep (explains rows) (subsets m)

-- over three values: 2 x0 + x1 = 1 has the solutions (0, 1), (1, 2) and (2, 0)
abbrev pub ThreeValues : Type 0
ThreeValues = solutions three (true ∷ true ∷ []) (record { left = T ∷ O ∷ []; right = O } ∷ []) ≡ (Z ∷ O ∷ []) ∷ (O ∷ T ∷ []) ∷ (T ∷ Z ∷ []) ∷ []

-- "exactly n", of a property that a test decides (the lemmas behind these ask for no test): the number is one
abbrev pub OneNumber : Type 0 → Type 0
OneNumber X = (p : X → Bool) (n m : ℕ) → Exactly n (λ x. p x ≡ true) → Exactly m (λ x. p x ≡ true) → n ≡ m

-- the number goes along a bijection between what has the one property and what has the other
abbrev pub AlongBijection : Type 0 → Type 0 → Type 0
AlongBijection X Y = (p : X → Bool) (q : Y → Bool) (n : ℕ) (f : X → Y) (g : Y → X) → ((x : X) → p x ≡ true → q (f x) ≡ true) → ((y : Y) → q y ≡ true → p (g y) ≡ true)
    → ((x : X) → p x ≡ true → g (f x) ≡ x) → ((y : Y) → q y ≡ true → y ≡ f (g y)) → Exactly n (λ x. p x ≡ true) → Exactly n (λ y. q y ≡ true)

-- x in a ways, and for each x then y in b ways: a * b pairs
abbrev pub PairsMultiply : Type 0 → Type 0 → Type 0
PairsMultiply X Y = (p : X → Bool) (q : X → Y → Bool) (a b : ℕ) → Exactly a (λ x. p x ≡ true) → ((x : X) → p x ≡ true → Exactly b (λ y. q x y ≡ true))
    → Exactly {X = X × Y} (a * b) (λ z. (p z.0 ≡ true) × (q z.0 z.1 ≡ true))
