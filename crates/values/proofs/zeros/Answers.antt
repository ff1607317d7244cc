use Rattle.std.proofs.Common.{◌≡◌, ℕ, zero, suc, ◌-◌, List, [], ◌++◌, take, replicate, refl, ap, ◌∙◌, ap₂, arith}
use Rattle.values.proofs.zeros.Goals as goal

take_nil : {X : Type 0} (n : ℕ) → take {A = X} n [] ≡ []
take_nil zero = refl
take_nil (suc n) = refl

resized : {X : Type 0} (v was : List X) (n m : ℕ) (x z : X) → v ≡ take n was ++ replicate (n - m) x → was ≡ [] → m ≡ 0 → x ≡ z → v ≡ replicate n z
resized v was n m x z e w k u =
    let d : n - m ≡ n = omega arith in
    e ∙ ap₂ (λ l i. l ++ replicate i x) (ap (take n) w ∙ take_nil n) d ∙ ap (replicate n) u

pub returns : goal.returns
returns g c = resized _ _ c.args.len _ _ _ c.in_ok-resize.ensures.items c.new-row.ensures.items c.new-row.ensures.len c.zero.ensures
