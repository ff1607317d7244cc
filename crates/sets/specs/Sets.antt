-- Sets of numbers, as masks: a list of bits, one for each number of a range. What lies past the end is not in the set.
use Rattle.std.specs.Prelude.{ℕ, suc, ◌+◌, Bool, true, false, not, ◌&&◌, ◌||◌, List, [], ◌∷◌, map, replicate, ◌==◌, slice_index_or, slice_set}
use Rattle.sets.specs.Bits.{flip}

-- whether k is in the set
abbrev pub has : List Bool → ℕ → Bool
has m k = slice_index_or m k false

-- one of several sets, by its number; the empty one past the end
abbrev pub row : List (List Bool) → ℕ → List Bool
row sets d = slice_index_or sets d []

-- place by place; the shorter one counts as filled up with false
abbrev pub over : (Bool → Bool → Bool) → List Bool → List Bool → List Bool
over f [] b = map (f false) b
over f (x ∷ a) [] = f x false ∷ map (λ y. f y false) a
over f (x ∷ a) (y ∷ b) = f x y ∷ over f a b

abbrev pub join : List Bool → List Bool → List Bool
join = over ◌||◌

abbrev pub meet : List Bool → List Bool → List Bool
meet = over ◌&&◌

-- what is in the first set and not in the second
abbrev pub less : List Bool → List Bool → List Bool
less = over (λ x y. x && not y)

-- what lies in exactly one of the two
abbrev pub plus : List Bool → List Bool → List Bool
plus = over flip

-- the empty set of numbers below n
abbrev pub empty : ℕ → List Bool
empty n = replicate n false

-- the set of the one number k, below n
abbrev pub only : ℕ → ℕ → List Bool
only n k = slice_set (empty n) k true

-- of the numbers below n, those that are listed
abbrev pub marks : ℕ → List ℕ → List Bool
marks n [] = empty n
marks n (k ∷ l) = slice_set (marks n l) k true

-- whether the set has an element
abbrev pub any : List Bool → Bool
any [] = false
any (x ∷ m) = x || any m

abbrev pub size_if : Bool → ℕ → ℕ
size_if true n = suc n
size_if false n = n

-- how many elements the set has
abbrev pub size : List Bool → ℕ
size [] = 0
size (x ∷ m) = size_if x (size m)

-- the lowest number in the set; of the empty set, its range's end
abbrev pub lowest : List Bool → ℕ
lowest [] = 0
lowest (true ∷ m) = 0
lowest (false ∷ m) = suc (lowest m)

-- whether two sets have a common element
abbrev pub meets : List Bool → List Bool → Bool
meets [] b = false
meets (x ∷ a) [] = false
meets (x ∷ a) (y ∷ b) = (x && y) || meets a b

-- whether the first is a subset of the second, over the same range
abbrev pub within : List Bool → List Bool → Bool
within [] [] = true
within [] (y ∷ b) = false
within (x ∷ a) [] = false
within (x ∷ a) (y ∷ b) = (not x || y) && within a b

-- which of several sets have an element in common with b
abbrev pub holders : List (List Bool) → List Bool → List Bool
holders sets b = map (λ c. meets c b) sets

-- whether an odd number of elements lie in both sets
abbrev pub odd : List Bool → List Bool → Bool
odd [] [] = false
odd [] (x ∷ xs) = false
odd (c ∷ cs) [] = false
odd (c ∷ cs) (x ∷ xs) = flip (c && x) (odd cs xs)

-- the elements in rising order, where the first place stands for the number k
abbrev pub elements_from : ℕ → List Bool → List ℕ
elements_from k [] = []
elements_from k (true ∷ m) = k ∷ elements_from (k + 1) m
elements_from k (false ∷ m) = elements_from (k + 1) m

-- the elements in rising order
abbrev pub elements : List Bool → List ℕ
elements m = elements_from 0 m

-- whether k is listed
abbrev pub among : ℕ → List ℕ → Bool
among k [] = false
among k (j ∷ l) = k == j || among k l

-- whether some number is listed twice
abbrev pub repeats : List ℕ → Bool
repeats [] = false
repeats (k ∷ l) = among k l || repeats l
