-- Truth values.
use Rattle.std.proofs.Common.{◌≡◌, Bool, true, false, not, ◌&&◌, ◌⊎◌, sym, refl, ap, ◌∙◌, inl, inr, true≢false}
use mathlib.Core.Bool.{false≢true}
use Rattle.sets.specs.Bits.{flip, alike}

pub clash : {b : Bool} → b ≡ true → b ≡ false → ⊥
clash p q = true≢false (sym p ∙ q)

pub and_comm : (a b : Bool) → (a && b) ≡ (b && a)
and_comm true true = refl
and_comm true false = refl
and_comm false true = refl
and_comm false false = refl

-- two that are true together are equal
pub same : (a b : Bool) → (a ≡ true → b ≡ true) → (b ≡ true → a ≡ true) → a ≡ b
same true true f g = refl
same true false f g = sym (f refl)
same false true f g = g refl
same false false f g = refl

pub alike_same : (a b : Bool) → alike a b ≡ true → a ≡ b
alike_same true true e = refl
alike_same true false e = absurd (false≢true e)
alike_same false true e = absurd (false≢true e)
alike_same false false e = refl

pub same_alike : (a b : Bool) → a ≡ b → alike a b ≡ true
same_alike true b e = sym e
same_alike false b e = ap not (sym e)

pub flip_cases : (a b : Bool) → flip a b ≡ true → (a ≡ true) ⊎ (b ≡ true)
flip_cases true b e = inl refl
flip_cases false b e = inr e

pub flip_self : (a : Bool) → flip a a ≡ false
flip_self true = refl
flip_self false = refl

pub flip_false : (a : Bool) → flip a false ≡ a
flip_false true = refl
flip_false false = refl

pub flip_comm : (a b : Bool) → flip a b ≡ flip b a
flip_comm true true = refl
flip_comm true false = refl
flip_comm false true = refl
flip_comm false false = refl

pub flip_assoc : (a b c : Bool) → flip (flip a b) c ≡ flip a (flip b c)
flip_assoc true true true = refl
flip_assoc true true false = refl
flip_assoc true false c = refl
flip_assoc false b c = refl

pub flip_back : (a b : Bool) → flip a (flip a b) ≡ b
flip_back true true = refl
flip_back true false = refl
flip_back false b = refl

pub flip_same : (a b : Bool) → flip a b ≡ false → a ≡ b
flip_same true true e = refl
flip_same true false e = absurd (true≢false e)
flip_same false b e = sym e

-- sums of four, regrouped
pub flip_four : (a b c d : Bool) → flip (flip a b) (flip c d) ≡ flip (flip a c) (flip b d)
flip_four a b c d =
    flip_assoc a b (flip c d)
    ∙ ap (flip a) (sym (flip_assoc b c d) ∙ ap (λ t. flip t d) (flip_comm b c) ∙ flip_assoc c b d)
    ∙ sym (flip_assoc a c (flip b d))

pub and_flip : (c x y : Bool) → (c && flip x y) ≡ flip (c && x) (c && y)
and_flip true x y = refl
and_flip false x y = refl
