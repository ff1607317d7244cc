-- The number that decimal digits write, digit by digit.
use Rattle.std.proofs.Common.{◌≡◌, ℕ, ◌+◌, ◌-◌, ◌*◌, ◌^◌, ◌<◌, ◌≤◌, true, List, get_or, take, length, ap, ◌∙◌, arith, add-one}
use Rattle.std.proofs.Math.Nat.{pow-succ'}
use Rattle.std.specs.List.{list_all}
use Rattle.std.specs.Char.{is_ascii_digit}
use Rattle.std.proofs.lemmas.List.Sums.{AllPass-from_list_all, fold_more}
use Rattle.tokens.specs.Tokens.{value_of}

-- each digit is at least `0` and at most `9`
pub record Digit (b : ℕ) : Type 0 where
  pub low : 48 ≤ b
  pub high : b ≤ 57

digit : (b : ℕ) → is_ascii_digit b ≡ true → Digit b
digit b h = record { low = grind arith; high = grind arith }

pub digit_at : (l : List ℕ) → list_all is_ascii_digit l ≡ true → (i : ℕ) → i < length l → Digit (get_or l i 0)
digit_at l h i lt = digit (get_or l i 0) (AllPass-from_list_all is_ascii_digit l h i 0 lt)

pub value_more : (l : List ℕ) (i : ℕ) → i < length l → value_of (take (i + 1) l) ≡ 10 * value_of (take i l) + (get_or l i 0 - 48)
value_more l i h = fold_more (λ n d. 10 * n + (d - 48)) 0 l i 0 h

pub ten_more : (i : ℕ) → 10 ^ (i + 1) ≡ 10 * 10 ^ i
ten_more i = ap (λ k. 10 ^ k) (add-one i) ∙ pow-succ' 10 i
