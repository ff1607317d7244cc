-- The words of a line: which of them are numbers, and what the others are joined to.
use Rattle.std.specs.Prelude.{◌≡◌, ℕ, ◌<◌, Bool, ◌&&◌, List, [], ◌∷◌, ◌++◌, length, if◌then◌else◌, nat_lt, nat_le, is_none, Option, Some, None}
use Rattle.std.specs.Char.{is_whitespace, is_not_whitespace}
use Rattle.std.specs.List.{filter, filter_map, concat}
use Rattle.std.specs.Str.{all_ascii_digits, NoCharPasses, EmptyOrStartsWithPassing}
use Rattle.std.specs.Str.Parse.{digits_value, without_leading_plus}

-- bs is white space, the word w, and rest, which is empty or begins with white space
abbrev pub StartsWithWord : List ℕ → List ℕ → List ℕ → Type 0
StartsWithWord bs w rest = (gap : List ℕ) × (bs ≡ gap ++ (w ++ rest)) × (0 < length w) × NoCharPasses is_not_whitespace gap × NoCharPasses is_whitespace w
    × ((more : List ℕ) × EmptyOrStartsWithPassing is_whitespace rest more)

-- ws are the words of bs
abbrev pub SplitsInto : List ℕ → List (List ℕ) → Type 0
SplitsInto bs [] = NoCharPasses is_not_whitespace bs
SplitsInto bs (w ∷ ws) = (rest : List ℕ) × StartsWithWord bs w rest × SplitsInto rest ws

-- ds are digits, one or more, and the number that they write is at most largest
abbrev pub is_number : ℕ → List ℕ → Bool
is_number largest ds = nat_lt 0 (length ds) && (all_ascii_digits ds && nat_le (digits_value 10 ds) largest)

-- the number that a word writes; a plus may stand before its digits
abbrev pub number_of : ℕ → List ℕ → Option ℕ
number_of largest w = let ds = without_leading_plus w in if is_number largest ds then Some (digits_value 10 ds) else None

-- the numbers among words, and the others joined in order
abbrev pub numbers_among : ℕ → List (List ℕ) → List ℕ
numbers_among largest ws = filter_map (number_of largest) ws

abbrev pub word_among : ℕ → List (List ℕ) → List ℕ
word_among largest ws = concat (filter (λ w. is_none (number_of largest w)) ws)
