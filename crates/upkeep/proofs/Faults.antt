-- A call by its first bar that holds.
use Rattle.std.proofs.Common.{◌≡◌, ℕ, zero, suc, ◌<◌, Bool, true, false, cond, List, [], ◌∷◌, length, get_or, take, Some, None, Err, Option, Result, sym, refl, ap, ◌∙◌, arith}
use Rattle.terms.specs.declared.refusal.Refusal.{Refusal}
use Rattle.rules.specs.Refusing.{Bar, unless}
use Rattle.rules.proofs.Bars.{Clear, passed}
use Rattle.upkeep.specs.Fault.{fault}

pub not_some : {A : Type 0} {X : Type 0} (a : A) → ◌≡◌ {A = Option A} (Some a) None → X
not_some a e = let z : ◌≡◌ {A = ℕ} 0 1 = cc in absurd (omega arith)

pub not_none : {A : Type 0} {X : Type 0} (a : A) → ◌≡◌ {A = Option A} None (Some a) → X
not_none a e = not_some a (sym e)

-- without a fault no bar holds
pub fault_clear : (bars : List Bar) → fault bars ≡ None → Clear bars
fault_clear [] e = tt
fault_clear (b ∷ bars) e = go b.holds refl e (fault_clear bars)
  where
    go : (t : Bool) → b.holds ≡ t → cond t (Some b.says) (fault bars) ≡ None → (fault bars ≡ None → Clear bars) → (b.holds ≡ false) × Clear bars
    go true h x ih = not_some b.says x
    go false h x ih = (h, ih x)

-- the bar at place k is the first that holds
pub fault_at : (k : ℕ) (bars : List Bar) (d : Bar) → k < length bars → Clear (take k bars) → (get_or bars k d).holds ≡ true → Some (get_or bars k d).says ≡ fault bars
fault_at k [] d h c e = absurd (omega arith)
fault_at zero (b ∷ bars) d h c e = sym (ap (λ t. cond t (Some b.says) (fault bars)) e)
fault_at (suc k) (b ∷ bars) d h c e = let h' : k < length bars = omega arith in fault_at k bars d h' c.1 e ∙ sym (ap (λ t. cond t (Some b.says) (fault bars)) c.0)

pub clear_fault : (bars : List Bar) → Clear bars → None ≡ fault bars
clear_fault [] c = refl
clear_fault (b ∷ bars) c = clear_fault bars c.1 ∙ sym (ap (λ t. cond t (Some b.says) (fault bars)) c.0)

module _ {A S : Type 0} (s : S) (after : Result A Refusal × S) where
  pub fault_none : (bars : List Bar) → None ≡ fault bars → unless bars s after ≡ after
  fault_none bars e = passed bars s after (fault_clear bars (sym e))

  pub fault_some : (bars : List Bar) (f : Refusal) → Some f ≡ fault bars → unless bars s after ≡ (Err f, s)
  fault_some [] f e = not_some f e
  fault_some (b ∷ bars) f e = go b.holds e (fault_some bars f)
    where
      go : (t : Bool) → Some f ≡ cond t (Some b.says) (fault bars) → (Some f ≡ fault bars → unless bars s after ≡ (Err f, s)) → cond t (Err b.says, s) (unless bars s after) ≡ (Err f, s)
      go true x ih = let same : f ≡ b.says = cc in ap (λ r. (Err r, s)) (sym same)
      go false x ih = ih x
