-- Counting how often a row names each number.
use Rattle.std.proofs.Common.{◌≡◌, ℕ, ◌+◌, ◌<◌, ◌≤◌, Bool, true, false, cond, eqb, List, length, get_or, take, set, map, replicate, refl, ap, ◌∙◌, arith, length-set, length-take}
use Rattle.std.specs.List.{range_with_len}
use Rattle.std.proofs.lemmas.List.{get_or-set_other, length-replicate, get_or-replicate, take_all}
use Rattle.std.proofs.lemmas.Grind.{get_or-set_at}
use Rattle.std.proofs.lemmas.List.Sums.{count_by-le-length}
use Rattle.std.proofs.lemmas.List.FromFn.{fill_by_all}
use Rattle.rows.specs.Crossing.{times}
use Rattle.rows.proofs.Named.{times_more}
use borrow.Author.Tests.{eqb-true}
use Rattle.std.proofs.lemmas.Bool.{eqb-false, ne_eqb}

-- how often the first i numbers of a row are each number below n
pub record Counted (row : List ℕ) (i n : ℕ) (counts : List ℕ) : Type 0 where
  pub long : length counts ≡ n
  pub each : (q : ℕ) → q < n → get_or counts q 0 ≡ times q (take i row)

pub counted_none : (row : List ℕ) (n : ℕ) → Counted row 0 n (replicate n 0)
counted_none row n = record { long = length-replicate n 0; each = λ q h. get_or-replicate {A = ℕ} n q 0 0 h }

module _ {row : List ℕ} {i n : ℕ} {counts : List ℕ} (c : Counted row i n counts) (low : i < length row) where
  abbrev q : ℕ
  q = get_or row i 0

  one_more : (p : ℕ) (b : Bool) → eqb p q ≡ b → times p (take (i + 1) row) ≡ times p (take i row) + cond b 1 0
  one_more p b e = times_more row i p low ∙ ap (λ t. times p (take i row) + cond t 1 0) e

  -- what is no column is passed over
  pub counted_past : length counts ≤ q → Counted row (i + 1) n counts
  counted_past h =
      record { long = c.long; each = λ p o. omega (arith, c.each p o, one_more p false (ne_eqb p q (λ e. absurd (omega (arith, c.long))))) }

  module _ (count : ℕ) (found : (q < length counts) × ((d : ℕ) → count ≡ get_or counts q d)) where
    -- a count is no more than what was gone over
    pub count_low : count ≤ i
    count_low = omega (arith, found.0, found.1 0, c.long, c.each q (omega (arith, found.0, c.long)), count_by-le-length (eqb q) (take i row), length-take i row)

    pub counted_more : Counted row (i + 1) n (set counts q (count + 1))
    counted_more = record { long = length-set counts q (count + 1) ∙ c.long; each = λ p o. at p o (eqb p q) refl }
      where
        at : (p : ℕ) → p < n → (b : Bool) → eqb p q ≡ b → get_or (set counts q (count + 1)) p 0 ≡ times p (take (i + 1) row)
        at p o true e =
            let same = eqb-true p q e in
            omega (arith, get_or-set_at counts q p (count + 1) 0 same found.0, found.1 0, ap (λ (j : ℕ). get_or counts j 0) same, c.each p o, one_more p true e)
        at p o false e = omega (arith, get_or-set_other counts q p (count + 1) 0 (eqb-false p q e), c.each p o, one_more p false e)

pub counted_all : {row : List ℕ} {i n : ℕ} {counts : List ℕ} → length row ≤ i → Counted row i n counts → counts ≡ map (λ q. times q row) (range_with_len 0 n)
counted_all {row} {i} {n} {counts} past c = fill_by_all (λ q. times q row) counts n 0 c.long (λ q h. c.each q h ∙ ap (times q) (take_all i row past))
