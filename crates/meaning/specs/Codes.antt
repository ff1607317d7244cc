-- What is promised of product codes, listed codes, turned codes and told rows.
use Rattle.std.specs.Prelude.{◌≡◌, ℕ, ◌<◌, ◌≤◌, Bool, true, false, List, length}
use Rattle.terms.specs.declared.row.Row.{Row}
use Rattle.terms.specs.Rows.{exchanged}
use Rattle.sets.specs.Lists.{In}
use Rattle.sets.specs.Sets.{marks, size, odd, repeats}
use Rattle.meaning.specs.Meaning.{Meaning, Sound, turned}
use Rattle.meaning.specs.Telling.{Tells, is_row, row_set}
use Rattle.meaning.specs.Product.{product_code, product_told}
use Rattle.meaning.specs.Listed.{listed_code, listed_told}

-- a seed of r rows and n columns, 1 to 32 each
pub record Seed (r n : ℕ) (H : List (List Bool)) : Type 0 where
  pub some_row : 1 ≤ r
  pub few_rows : r ≤ 32
  pub some_column : 1 ≤ n
  pub few_columns : n ≤ 32
  pub rows : length H ≡ r
  pub columns : (h : List Bool) → In h H → length h ≡ n

abbrev pub ProductSound : Type 0
ProductSound = (r n : ℕ) (H : List (List Bool)) → Seed r n H → Sound (product_code r n H)

-- the stated order names every qubit of a row of the product code, each once
abbrev pub ProductTells : Type 0
ProductTells = (r n : ℕ) (H : List (List Bool)) → Seed r n H → Tells (product_code r n H) (product_told r n H)

-- rows that name numbers below n, none of them twice
pub record Names (n : ℕ) (rows : List (List ℕ)) : Type 0 where
  pub low : (row : List ℕ) → In row rows → (q : ℕ) → In q row → q < n
  pub once : (row : List ℕ) → In row rows → repeats row ≡ false

-- each check shares an even number of the n qubits with each generator
abbrev pub Even : ℕ → List (List ℕ) → List (List ℕ) → Type 0
Even n checks generators = (c g : List ℕ) → In c checks → In g generators → odd (marks n c) (marks n g) ≡ false

abbrev pub ListedSound : Type 0
ListedSound =
    (checks generators : List (List ℕ)) (sides : List Bool)
    → 1 ≤ length sides
    → length sides ≤ 2048
    → length checks ≤ 1024
    → length generators ≤ 1024
    → Even (length sides) checks generators
    → Sound (listed_code checks generators sides)

abbrev pub ListedTells : Type 0
ListedTells =
    (checks generators : List (List ℕ)) (sides : List Bool)
    → Names (length sides) checks
    → Names (length sides) generators
    → Tells (listed_code checks generators sides) (listed_told checks generators)

abbrev pub TurnedSound : Type 0
TurnedSound = (M : Meaning) → Sound M → Sound (turned M)

abbrev pub TurnedTells : Type 0
TurnedTells = (M : Meaning) (told : Row → List ℕ) → Tells M told → Tells (turned M) (λ r. told (exchanged r))

-- a row is told in as many answers as its set has qubits
abbrev pub ToldCounts : Type 0
ToldCounts = (M : Meaning) (told : Row → List ℕ) → Tells M told → (r : Row) → is_row M r ≡ true → length (told r) ≡ size (row_set M r)
