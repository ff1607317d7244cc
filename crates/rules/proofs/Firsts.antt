-- The first number that passes, and the first call that can be made.
use Rattle.std.proofs.Common.{◌≡◌, ℕ, zero, suc, ◌+◌, ◌<◌, Bool, true, false, ◌⊎◌, sym, refl, ap, ◌∙◌, inl, inr, arith}
use mathlib.Core.Option.{Option, none, some}
use Rattle.std.specs.List.{range_with_len}
use Rattle.rules.specs.CallLists.{Call}
use Rattle.rules.specs.Run.{first_that, or_else, only_if, as_call}

pub some_is : {X : Type 0} (x y : X) → some x ≡ some y → x ≡ y
some_is x y e = cc

pub never : {X : Type 0} {Y : Type 0} (x : X) → none ≡ some x → Y
never {X} {Y} x e = let z : ◌≡◌ {A = ℕ} 0 1 = cc in absurd (omega arith)

pub or_else_lem : {X : Type 0} (a b : Option X) (x : X) → or_else a b ≡ some x → (a ≡ some x) ⊎ (b ≡ some x)
or_else_lem none b x e = inr e
or_else_lem (some y) b x e = inl e

-- with nothing to choose from, neither has anything
pub or_none_else : {X : Type 0} (a b : Option X) → or_else a b ≡ none → b ≡ none
or_none_else none b e = e
or_none_else (some y) b e = never y (sym e)

pub only_if_lem : {X : Type 0} (b : Bool) (o : Option X) (x : X) → only_if b o ≡ some x → o ≡ some x
only_if_lem true o x e = e
only_if_lem false o x e = never x e

pub as_call_lem : (f : ℕ → Call) (o : Option ℕ) (c : Call) → as_call f o ≡ some c → (k : ℕ) × (o ≡ some k) × (f k ≡ c)
as_call_lem f none c e = never c e
as_call_lem f (some k) c e = (k, refl, some_is (f k) c e)

pub first_that_lem : (p : ℕ → Bool) (from n k : ℕ) → first_that p (range_with_len from n) ≡ some k → (p k ≡ true) × (k < from + n)
first_that_lem p from zero k e = never k e
first_that_lem p from (suc n) k e = go (p from) refl e (first_that_lem p (from + 1) n k)
  where
    go : (b : Bool) → p from ≡ b → (elim b [ true ↦ some from | false ↦ first_that p (range_with_len (from + 1) n) ]) ≡ some k → (first_that p (range_with_len (from + 1) n) ≡ some k → (p k ≡ true) × (k < from + 1 + n)) → (p k ≡ true) × (k < from + suc n)
    go true q x ih = let g : from ≡ k = some_is from k x in (ap p (sym g) ∙ q, omega arith)
    go false q x ih = let r = ih x in (r.0, omega (arith, r.1))
