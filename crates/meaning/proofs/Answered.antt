-- What an answer tells: whether the question was in range, and if so what was asked for.
use Rattle.std.proofs.Common.{◌≡◌, ℕ, ◌-◌, ◌<◌, ◌≤◌, Bool, true, false, ltb, List, ◌++◌, length, get_or, Some, None, Option, sym, refl, ap, ◌∙◌, arith, length-append, ltb-true, lt-ltb}
use Rattle.std.proofs.lemmas.List.{get_or_append_left, get_or-append_right}
use Rattle.sets.proofs.Bits.{same}
use Rattle.meaning.specs.Telling.{within_range}

module _ {X : Type 0} where
  pub answered : (b : Bool) (x y : X) → Some y ≡ within_range b x → (b ≡ true) × (y ≡ x)
  answered true x y e = (refl, cc)
  answered false x y e = let z : ◌≡◌ {A = ℕ} 0 1 = cc in absurd (omega arith)

  -- a question in range is answered, one outside is not
  pub in_range : (b : Bool) (x : X) → b ≡ true → Some x ≡ within_range b x
  in_range b x e = ap (λ t. within_range t x) (sym e)

  pub out_of_range : (b : Bool) (x : X) → b ≡ false → None ≡ within_range b x
  out_of_range b x e = ap (λ t. within_range t x) (sym e)
