-- What is read of the numbers of a line, of which each past the end is 0.
use Rattle.std.specs.Prelude.{ℕ, zero, suc, ◌/◌, List, [], ◌∷◌, map, length, drop, min, slice_index}
use Rattle.std.specs.List.{range_with_len}
use Rattle.std.specs.Simd.{first_chunks}
use Rattle.product.specs.declared.place.Place.{Place}

-- a number as one of a qubit, check or generator: what is larger than any becomes the largest
abbrev pub short : ℕ → ℕ
short n = min n 65535

-- the first n numbers
abbrev pub shorts : List ℕ → ℕ → List ℕ
shorts l n = map (λ k. short (slice_index l k)) (range_with_len 0 n)

-- a count and so many numbers, and what is left after them
abbrev pub counted : List ℕ → List ℕ
counted l = shorts (drop 1 l) (slice_index l 0)

abbrev pub after_counted : List ℕ → List ℕ
after_counted l = drop (slice_index l 0) (drop 1 l)

-- n rows, each a count and so many numbers, and what is left after them
abbrev pub rows_in : ℕ → List ℕ → List (List ℕ)
rows_in zero l = []
rows_in (suc n) l = counted l ∷ rows_in n (after_counted l)

abbrev pub after_rows_in : ℕ → List ℕ → List ℕ
after_rows_in zero l = l
after_rows_in (suc n) l = after_rows_in n (after_counted l)

-- a count and so many rows, and what is left after them
abbrev pub counted_rows : List ℕ → List (List ℕ)
counted_rows l = rows_in (slice_index l 0) (drop 1 l)

abbrev pub after_counted_rows : List ℕ → List ℕ
after_counted_rows l = after_rows_in (slice_index l 0) (drop 1 l)

-- two numbers as the place of a one in a seed
abbrev pub place_of : List ℕ → Place
place_of c = record { row = short (slice_index c 0); column = short (slice_index c 1) }

-- a seed: its numbers of rows and columns, and then row and column of each of its ones
abbrev pub seed_rows : List ℕ → ℕ
seed_rows l = short (slice_index l 0)

abbrev pub seed_columns : List ℕ → ℕ
seed_columns l = short (slice_index l 1)

abbrev pub seed_places : List ℕ → List Place
seed_places l = map place_of (first_chunks 2 (length (drop 2 l) / 2) (drop 2 l))

-- a listed code: a count and the sides, a count and the checks, a count and the generators
abbrev pub listed_sides : List ℕ → List ℕ
listed_sides l = map (λ side. min side 255) (counted l)

abbrev pub listed_checks : List ℕ → List (List ℕ)
listed_checks l = counted_rows (after_counted l)

abbrev pub listed_generators : List ℕ → List (List ℕ)
listed_generators l = counted_rows (after_counted_rows (after_counted l))
