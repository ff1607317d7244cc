-- The greatest of some bytes is zero exactly if each is.
use Rattle.std.proofs.Common.{◌≡◌, ℕ, zero, suc, max, Bool, true, false, not, ◌||◌, eqb, List, [], ◌∷◌, sym, refl, ap, ◌∙◌, arith}
use Rattle.std.specs.Prelude.{fold}
use Rattle.std.proofs.Math.Nat.{zero-max}
use Rattle.std.proofs.lemmas.Bool.{ne_eqb}
use Rattle.rules.specs.Refusing.{some_nonzero}

greater : (m x : ℕ) → not (eqb (max m x) 0) ≡ (not (eqb m 0) || not (eqb x 0))
greater zero x = ap (λ n. not (eqb n 0)) (zero-max x)
greater (suc m) x =
    ap not (ne_eqb (max (suc m) x) 0 (λ e. absurd (omega (arith, e))))
    ∙ ap (λ b. not b || not (eqb x 0)) (sym (ne_eqb (suc m) 0 (λ e. absurd (omega (arith, e)))))

pub greatest : (l : List ℕ) (m : ℕ) → not (eqb (fold max m l) 0) ≡ (not (eqb m 0) || some_nonzero l)
greatest [] m = go (not (eqb m 0))
  where
    go : (b : Bool) → b ≡ (b || false)
    go true = refl
    go false = refl
greatest (x ∷ l) m = greatest l (max m x) ∙ ap (λ b. b || some_nonzero l) (greater m x) ∙ go (not (eqb m 0)) (not (eqb x 0)) (some_nonzero l)
  where
    go : (a b c : Bool) → ((a || b) || c) ≡ (a || (b || c))
    go true b c = refl
    go false b c = refl
