use Rattle.std.proofs.Common.{◌≡◌, ℕ, suc, ◌+◌, ◌-◌, ◌<◌, [], ◌∷◌, ◌++◌, ap, ◌∙◌, sym, append_assoc, arith}
use Rattle.played.specs.Reading.{counted, after_counted, rows_in, after_rows_in}
use Rattle.played.proofs.codes.rows_in.Goals as goal

-- one more row is read
one_less : (n k : ℕ) → k < n → n - k ≡ suc (n - (k + 1))
one_less n k h = omega arith

pub loop-read-preserved : goal.loop-read-preserved
loop-read-preserved c =
    let n = c.next-count.result in
    let k = c.loop-read._read in
    let l = c.loop-read.numbers in
    let m = n - (k + 1) in
    let e = one_less n k c.loop-read-test.true in
    let row = c.as_slice.ensures.value ∙ c.in_ok-row.ensures.items in
    let left = c.in_ok-row.ensures.rest in
    record {
      rows = (λ i. c.push.new.self ++ rows_in m (left i))
          ∙ ap (λ r. r ++ rows_in m (after_counted l)) (c.in_ok-push.ensures ∙ ap (λ r. c.loop-read.rows ++ r ∷ []) row)
          ∙ append_assoc c.loop-read.rows (counted l ∷ []) (rows_in m (after_counted l))
          ∙ ap (λ j. c.loop-read.rows ++ rows_in j l) (sym e)
          ∙ c.loop-read.invariant.rows;
      rest = ap (after_rows_in m) left ∙ ap (λ j. after_rows_in j l) (sym e) ∙ c.loop-read.invariant.rest;
    }
