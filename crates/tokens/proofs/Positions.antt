-- The first place that passes a test, as code finds it.
use Rattle.std.proofs.Common.{◌≡◌, ℕ, Bool, true, false, not, cond, ltb, List, length, Some, None, Option, position, sym, refl, ap, ◌∙◌, arith, ltb-false}
use Rattle.std.specs.List.{position_or_len}
use Rattle.std.specs.Option.{unwrap_or}
use Rattle.std.proofs.lemmas.List.Sums.{prefix_len-le-length}

-- or the length, where none does
pub or_length : (p : ℕ → Bool) (l : List ℕ) (o : Option ℕ) → o ≡ position p l → unwrap_or o (length l) ≡ position_or_len p l
or_length p l o e = ap (λ o. unwrap_or o (length l)) e ∙ chosen (ltb (position_or_len p l) (length l)) refl
  where
    chosen : (b : Bool) → b ≡ ltb (position_or_len p l) (length l) → unwrap_or (cond b (Some (position_or_len p l)) None) (length l) ≡ position_or_len p l
    chosen true e = refl
    chosen false e = omega (arith, prefix_len-le-length (λ x. not (p x)) l, ltb-false (position_or_len p l) (length l) (sym e))
