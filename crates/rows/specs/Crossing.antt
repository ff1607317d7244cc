-- Rows read crosswise.
use Rattle.std.specs.Prelude.{ℕ, zero, suc, List, [], ◌++◌, replicate, count_by, nat_eq, slice_index_or}

-- how often the row names q
abbrev pub times : ℕ → List ℕ → ℕ
times q row = count_by (nat_eq q) row

-- k, as often as the row names q
abbrev pub namings : ℕ → ℕ → List ℕ → List ℕ
namings q k row = replicate (times q row) k

-- the numbers of those of the first n rows that name q, rising, each as often as its row names q
abbrev pub namers : List (List ℕ) → ℕ → ℕ → List ℕ
namers rows q zero = []
namers rows q (suc n) = namers rows q n ++ namings q n (slice_index_or rows n [])
