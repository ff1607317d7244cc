-- The product code of a seed: a matrix H of bits with r rows and n columns, given by its rows.
-- Rows of the seed are numbered a and a', its columns b and b', from 0.
use Rattle.std.specs.Prelude.{ℕ, ◌+◌, ◌*◌, ◌/◌, ◌%◌, Bool, true, false, cond, List, ◌++◌, map, replicate, ◌==◌}
use Rattle.std.specs.List.{range_with_len}
use Rattle.terms.specs.declared.row.Row.{Row}
use Rattle.terms.specs.declared.row.Row.TheVariants.{Check, Generator}
use Rattle.sets.specs.Lists.{flat}
use Rattle.sets.specs.Sets.{has, row, empty, only, elements}
use Rattle.meaning.specs.Meaning.{Meaning}

module _ (r n : ℕ) (H : List (List Bool)) where
  -- the column b of the seed: the rows that have a 1 there
  abbrev pub column : ℕ → List Bool
  column b = map (λ h. has h b) H

  -- the numbers of the qubits (b, b'), on side 0, and (a, a'), on side 1
  abbrev pub column_pair : ℕ → ℕ → ℕ
  column_pair b b' = b * n + b'

  abbrev pub row_pair : ℕ → ℕ → ℕ
  row_pair a a' = n * n + (a * r + a')

  -- A set of qubits is n lines of n places, one line for each b, and then r lines of r places, one for each a.
  -- check (b, a') holds the (b, b') with H[a'][b'] = 1, and the (a, a') with H[a][b] = 1
  abbrev pub check_at : ℕ → ℕ → List Bool
  check_at b a' = flat (λ x. cond (x == b) (row H a') (empty n)) (range_with_len 0 n) ++ flat (λ a. cond (has (row H a) b) (only r a') (empty r)) (range_with_len 0 r)

  -- generator (a, b') holds the (b, b') with H[a][b] = 1, and the (a, a') with H[a'][b'] = 1
  abbrev pub generator_at : ℕ → ℕ → List Bool
  generator_at a b' = flat (λ b. cond (has (row H a) b) (only n b') (empty n)) (range_with_len 0 n) ++ flat (λ x. cond (x == a) (column b') (empty r)) (range_with_len 0 r)

  -- check (b, a') has the number b * r + a', generator (a, b') the number a * n + b'
  abbrev pub product_code : Meaning
  product_code =
      record {
        checks = flat (λ b. map (λ a'. check_at b a') (range_with_len 0 r)) (range_with_len 0 n);
        generators = flat (λ a. map (λ b'. generator_at a b') (range_with_len 0 n)) (range_with_len 0 r);
        sides = replicate (n * n) false ++ replicate (r * r) true;
      }

  -- the order in which a row's qubits are told: side 0 first, each part in rising number
  abbrev pub check_told : ℕ → ℕ → List ℕ
  check_told b a' = map (λ b'. column_pair b b') (elements (row H a')) ++ map (λ a. row_pair a a') (elements (column b))

  abbrev pub generator_told : ℕ → ℕ → List ℕ
  generator_told a b' = map (λ b. column_pair b b') (elements (row H a)) ++ map (λ a'. row_pair a a') (elements (column b'))

  abbrev pub product_told : Row → List ℕ
  product_told (Check k) = check_told (k / r) (k % r)
  product_told (Generator k) = generator_told (k / n) (k % n)
